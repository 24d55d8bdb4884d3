use Rattle.cal_format.proofs.VariantScans.{skipped-more, skipped-none}
use Rattle.cal_format.proofs.variants.+skip_spaces.Goals as goal

pub returns-in-Some-clause-every : goal.returns-in-Some-clause-every
returns-in-Some-clause-every t c fill rest few out e = skipped-more fill c.args.most _ _ _ _ rest few out c.in-Some.ensures.value e c.skip_spaces.ensures.every

pub returns-in-None-clause-every : goal.returns-in-None-clause-every
returns-in-None-clause-every t c fill rest few out e = skipped-none fill _ _ _ rest e c.in-None.ensures.scans c.in-None.ensures.unchanged

use Rattle.cal_format.proofs.VariantScans.{unfilled-every}
use Rattle.cal_format.proofs.variants.skip_fill.Goals as goal

pub returns-then-not-may_fill-clause-every : goal.returns-then-not-may_fill-clause-every
returns-then-not-may_fill-clause-every c k rest none few out e = unfilled-every c.args.may_fill k _ rest c.if-not-may_fill.true none e

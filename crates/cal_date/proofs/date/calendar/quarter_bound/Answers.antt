use Rattle.std.proofs.Common.{◌∙◌, [], ap, slice_index_or}
use Rattle.cal_date.proofs.QuarterBounds.{bounds, bound-is}
use Rattle.cal_date.proofs.date.calendar.quarter_bound.Goals as goal

pub returns-clause-value : goal.returns-clause-value
returns-clause-value c = λ y same.
    c.from-2.ensures ∙ ap (λ k. slice_index_or (slice_index_or bounds c.args.bound []) k 0) c.from.ensures ∙ bound-is y c.args.bound c.args.leap same c.requires

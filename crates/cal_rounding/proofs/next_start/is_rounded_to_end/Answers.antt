use Rattle.cal_datetime.specs.OffsetDateTime.{instant}
use Rattle.cal_rounding.proofs.Starts.{to_start}
use Rattle.cal_rounding.proofs.next_start.is_rounded_to_end.Goals as goal

pub returns-clause-start : goal.returns-clause-start
returns-clause-start c = λ no low.
    to_start c.args.mode (instant c.args.moment) (instant c.args.start) (instant c.args.end) _ _ c.sub.ensures.0 c.sub-2.ensures.0 low
    (c.is_whole_length.ensures.none no)

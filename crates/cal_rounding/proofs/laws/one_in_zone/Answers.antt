use Rattle.std.proofs.Common.{sym, subst, ◌∙◌}
use Rattle.cal_datetime.specs.DateTime.{IsDateTime}
use Rattle.cal_rounding.proofs.OneInZone.{clock-one, day-one}
use Rattle.cal_rounding.proofs.laws.one_in_zone.Goals as goal

pub returns-clause-day : goal.returns-clause-day
returns-clause-day c = λ mode a b.
    day-one mode c.args.value.now a b (sym c.offset.ensures.value ∙ c.offset.ensures.zone) (subst IsDateTime c.local.ensures.value c.local.ensures.range)

pub returns-clause-clock : goal.returns-clause-clock
returns-clause-clock c = λ mode a b. clock-one mode c.args.unit c.args.value.now a b c.length.ensures.range.positive c.one_kept.ensures

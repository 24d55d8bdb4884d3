use Rattle.std.proofs.Common.{ℕ, arith}
use Rattle.std.proofs.lemmas.Bool.{false≢true}
use Rattle.std.proofs.lemmas.List.{length-replicate}
use Rattle.cal_format.specs.Moment.{IsMoment}
use Rattle.cal_format.proofs.Lengths.{zone_text-short}
use Rattle.cal_format.proofs.value.print_long.Goals as goal

pub returns-in_err-end : goal.returns-in_err-end
returns-in_err-end c =
    let moment : IsMoment c.args.moment.now = record { date = c.to_julian_day.ensures.in_range; time = c.hour.ensures.in_range; offset = c.whole_seconds.ensures.range } in
    let short = zone_text-short c.args.abbreviation.now c.args.items.now c.args.moment.now c.requires.short moment in
    absurd (false≢true (c.in_err-end.ensures.room.1 (omega (arith, short, c.requires.few, length-replicate {A = ℕ} 960 0))))

use Rattle.std.proofs.Common.{refl}
use Rattle.std.proofs.lemmas.Int.{to_z-of_z}
use Rattle.std.proofs.lemmas.Bool.{false≢true}
use Rattle.cal_datetime.proofs.Instants.{julian_day-in_range, julian_day-none}
use Rattle.cal_datetime.proofs.offset_date_time.unix.checked_date_of_julian_day.Goals as goal

pub returns-in-Ok-clause-some : goal.returns-in-Ok-clause-some
returns-in-Ok-clause-some c =
    let f = c.ranges.julian_day in
    let day = simp to_z-of_z at c.in-Ok.ensures.value in
    (λ _. julian_day-in_range c.in-Ok.date c.args.julian_day day.0 day.1, λ _. refl)

pub returns-in-Err-clause-some : goal.returns-in-Err-clause-some
returns-in-Err-clause-some c =
    let f = c.ranges.julian_day in
    let none = simp to_z-of_z at (c.in-Err.ensures.error.0 refl) in
    (λ h. absurd (false≢true h), λ h. absurd (julian_day-none c.args.julian_day none h))

use Rattle.std.proofs.Common.{arith, refl}
use Rattle.std.proofs.lemmas.Int.{ints}
use Rattle.cal_date.proofs.IsoForms.{first_weekday-years_before}
use Rattle.cal_date.specs.CountLaws.{years_before}
use Rattle.cal_date.proofs.date.iso_week.weekday_index.Goals as goal

pub returns : goal.returns
returns c = λ y h e.
    let k = years_before y in
    let first = first_weekday-years_before y k h.0 refl in
    omega (arith, ints)

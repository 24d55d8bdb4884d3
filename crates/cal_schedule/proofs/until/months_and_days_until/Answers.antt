use Rattle.std.proofs.Common.{◌≡◌, refl, ◌+ℤ◌, subst, arith, to_z, of_z, w32}
use Rattle.std.proofs.lemmas.Int.{ints}
use Rattle.cal_schedule.specs.Months.{month_number_at, IsMonthNumber, IsMonthsLater}
use Rattle.cal_schedule.proofs.Untils.{until-month, until-on, until-back}
use Rattle.cal_schedule.proofs.until.months_and_days_until.Goals as goal

pub add_months-day-requires : goal.add_months-day-requires
add_months-day-requires c =
    let months : c.months_until-months.result ≡ to_z w32 (of_z w32 c.months_until-months.result) = omega (arith, ints) in
    subst (λ m. IsMonthNumber (month_number_at c.args.from +ℤ m)) months (until-month _ _ _ c.months_until-months.ensures.value_forward c.months_until-months.ensures.value_backward)

pub returns-clause-value : goal.returns-clause-value
returns-clause-value c = record {
  day = c.add_months-day.result;
  date = c.add_months-day.ensures.range;
  later = subst (λ m. IsMonthsLater c.args.from m c.add_months-day.result) (omega (arith, ints)) c.add_months-day.ensures.value;
  days = omega (arith, ints);
  only = refl;
}

pub returns-clause-forward : goal.returns-clause-forward
returns-clause-forward c h =
    let months = c.months_until-months.ensures in
    let whole : to_z w32 (of_z w32 c.months_until-months.result) ≡ c.months_until-months.result = omega (arith, ints) in
    let later = subst (λ m. IsMonthsLater c.args.from m c.add_months-day.result) whole c.add_months-day.ensures.value in
    let before = until-on _ _ _ _ later (months.value_forward h) in
    (omega (arith, ints, months.min h), omega (arith, ints, before))

pub returns-clause-backward : goal.returns-clause-backward
returns-clause-backward c h =
    let months = c.months_until-months.ensures in
    let whole : to_z w32 (of_z w32 c.months_until-months.result) ≡ c.months_until-months.result = omega (arith, ints) in
    let later = subst (λ m. IsMonthsLater c.args.from m c.add_months-day.result) whole c.add_months-day.ensures.value in
    let after = until-back _ _ _ _ later (months.value_backward h) in
    (omega (arith, ints, months.max h), omega (arith, ints, after))

use Rattle.std.proofs.Common.{refl, subst, arith}
use Rattle.std.proofs.lemmas.Int.{ints}
use Rattle.cal_schedule.specs.Months.{IsMonthsLater}
use Rattle.cal_schedule.proofs.until.parts_until.Goals as goal

pub returns-clause-value : goal.returns-clause-value
returns-clause-value c =
    let whole = c.months_and_days_until-whole.ensures.value in
    record {
      day = whole.day;
      date = whole.date;
      later = subst (λ m. IsMonthsLater c.args.from m whole.day) (omega (arith, ints, c.years_and_months-years.ensures.value)) whole.later;
      days = omega (arith, ints, whole.days);
      only = refl;
    }

pub returns-clause-forward : goal.returns-clause-forward
returns-clause-forward c h =
    let whole = c.months_and_days_until-whole.ensures.forward h in
    let signs = c.years_and_months-years.ensures.forward (omega (arith, ints, whole.0)) in
    (omega (arith, ints, signs.0), omega (arith, ints, signs.1), omega (arith, ints, signs.2), omega (arith, ints, whole.1))

pub returns-clause-backward : goal.returns-clause-backward
returns-clause-backward c h =
    let whole = c.months_and_days_until-whole.ensures.backward h in
    let signs = c.years_and_months-years.ensures.backward (omega (arith, ints, whole.0)) in
    (omega (arith, ints, signs.0), omega (arith, ints, signs.1), omega (arith, ints, signs.2), omega (arith, ints, whole.1))

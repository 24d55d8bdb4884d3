use Rattle.std.proofs.Common.{arith, refl, pos, ◌≤ℤ◌, ◌<ℤ◌, w64, FitsSigned, rules}
use Rattle.std.proofs.lemmas.Int.{ints}
use Rattle.cal_zoned.proofs.StepsInOrder.{only_exact, some_days, some_exact, some_months}
use Rattle.cal_zoned.proofs.steps.is_positive.Goals as goal

pub returns-then-whole_months-gt0 : goal.returns-then-whole_months-gt0
returns-then-whole_months-gt0 c =
    let a : FitsSigned w64 c.whole_months.result = search rules in
    let some : pos 0 <ℤ c.whole_months.result = omega (arith, ints) in
    let h = some_months c.args.period c.whole_months.result c.whole_months.ensures.one_sign c.whole_months.ensures.value some in
    (λ _. h, λ _. refl)

pub returns-then-whole_days-gt0 : goal.returns-then-whole_days-gt0
returns-then-whole_days-gt0 c =
    let b : FitsSigned w64 c.whole_days.result = search rules in
    let some : pos 0 <ℤ c.whole_days.result = omega (arith, ints) in
    let h = some_days c.args.period c.whole_days.result c.whole_months.ensures.one_sign c.whole_days.ensures some in
    (λ _. h, λ _. refl)

pub returns : goal.returns
returns c =
    let a : FitsSigned w64 c.whole_months.result = search rules in
    let b : FitsSigned w64 c.whole_days.result = search rules in
    let none : c.whole_months.result ≤ℤ pos 0 = omega (arith, ints) in
    let no : c.whole_days.result ≤ℤ pos 0 = omega (arith, ints) in (
      λ t. some_exact c.args.period c.duration.result c.whole_months.ensures.one_sign c.duration.ensures (c.is_positive.ensures.0 t),
      λ is. c.is_positive.ensures.1 (only_exact c.args.period c.whole_months.result c.whole_days.result c.duration.result c.whole_months.ensures.value c.whole_days.ensures c.duration.ensures none no is),
    )

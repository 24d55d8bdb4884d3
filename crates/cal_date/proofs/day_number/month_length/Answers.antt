use Rattle.std.proofs.Common.{◌≡◌, ◌≢◌, ◌+◌, ◌/◌, ◌%◌, ◌∙◌, ap, arith}
use Rattle.std.proofs.lemmas.Bool.Decides.{nat_tests}
use Rattle.cal_units.specs.Lengths.{days_in_month}
use Rattle.cal_date.proofs.Months.{other_month}
use Rattle.cal_date.proofs.day_number.month_length.Goals as goal

pub returns-then-leap-clause-value : goal.returns-then-leap-clause-value
unfolding days_in_month
returns-then-leap-clause-value c = λ y month leap. grind (arith, nat_tests)

pub returns-else-leap-clause-value : goal.returns-else-leap-clause-value
unfolding days_in_month
returns-else-leap-clause-value c = λ y month leap. grind (arith, nat_tests)

pub returns-else-month-eq2-clause-value : goal.returns-else-month-eq2-clause-value
returns-else-month-eq2-clause-value c = λ y month leap.
    let same : c.from-month.result ≡ c.args.month = omega arith in
    let other : c.args.month ≢ 2 = omega arith in
    ap (λ k. 30 + (k + k / 8) % 2) same ∙ other_month y c.args.month month other

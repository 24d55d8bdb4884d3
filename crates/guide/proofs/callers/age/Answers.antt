use Rattle.std.proofs.Common.{arith, ℕ, ◌<◌, ◌≤◌, ◌≡◌, ◌⊎◌, inl, inr}
use Rattle.std.proofs.lemmas.Int.{ints}
use Rattle.std.proofs.lemmas.Bool.Decides.{nat_tests}
use Rattle.cal_time.specs.Date.{month_at, day_of_month_at}
use Rattle.cal_time.specs.Components.{year_at-rises, year_at-later, year_at-later_in_month}
use Rattle.guide.proofs.callers.age.Goals as goal
use Rattle.guide.proofs.callers.age.Goals.{then-lt, else-lt+then-eq, else-lt+else-eq}

-- a month and a day of it come before others, or not
apart : (m k d e : ℕ) → (m < k) ⊎ ((k ≡ m) × (d ≤ e)) → (k < m) ⊎ ((k ≡ m) × (e < d)) → ⊥
apart m k d e (inl less) (inl more) = omega arith
apart m k d e (inl less) (inr same) = omega (arith, same.0)
apart m k d e (inr same) (inl more) = omega (arith, same.0)
apart m k d e (inr same) (inr less) = omega (arith, same.1, less.1)

pub returns-then-day-clause-since : goal.returns-then-day-clause-since
returns-then-day-clause-since c since =
    elim c.if-lt.branch [
      | then-lt w ↦ let month : month_at c.args.at < month_at c.args.born = grind (arith, nat_tests) in absurd (apart _ _ _ _ since (inl month))
      | else-lt+then-eq w ↦
          let month : month_at c.args.at ≡ month_at c.args.born = grind (arith, nat_tests) in
          let day : day_of_month_at c.args.at < day_of_month_at c.args.born = grind (arith, nat_tests) in
          absurd (apart _ _ _ _ since (inr (month, day)))
      | else-lt+else-eq w ↦ absurd (grind (arith, nat_tests))
    ]

pub returns-then-day-clause-min : goal.returns-then-day-clause-min
returns-then-day-clause-min c =
    elim c.if-lt.branch [
      | then-lt w ↦ let month : month_at c.args.at < month_at c.args.born = grind (arith, nat_tests) in omega (arith, ints, year_at-later c.args.born c.args.at c.requires month)
      | else-lt+then-eq w ↦
          let month : month_at c.args.at ≡ month_at c.args.born = grind (arith, nat_tests) in
          let day : day_of_month_at c.args.at < day_of_month_at c.args.born = grind (arith, nat_tests) in
          omega (arith, ints, year_at-later_in_month c.args.born c.args.at c.requires month day)
      | else-lt+else-eq w ↦ absurd (grind (arith, nat_tests))
    ]

pub returns-else-day-clause-before : goal.returns-else-day-clause-before
returns-else-day-clause-before c before =
    elim c.if-lt.branch [
      | then-lt w ↦ absurd (grind (arith, nat_tests))
      | else-lt+then-eq w ↦
          let month : month_at c.args.at ≡ month_at c.args.born = grind (arith, nat_tests) in
          let day : day_of_month_at c.args.born ≤ day_of_month_at c.args.at = grind (arith, nat_tests) in
          absurd (apart _ _ _ _ (inr (month, day)) before)
      | else-lt+else-eq w ↦
          let month : month_at c.args.born < month_at c.args.at = grind (arith, nat_tests) in
          absurd (apart _ _ (day_of_month_at c.args.born) _ (inl month) before)
    ]

pub returns-else-day-clause-min : goal.returns-else-day-clause-min
returns-else-day-clause-min c = omega (arith, ints, year_at-rises c.args.born c.args.at)

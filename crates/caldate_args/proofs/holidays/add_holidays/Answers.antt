use Rattle.std.proofs.Common.{◌≡◌, ◌⊎◌, ℕ, length, take, subst, sym, arith}
use Rattle.std.specs.Prelude.{◌↔◌, Contains, IfNone, IfSome}
use Rattle.cal_holidays.specs.Holidays.{AreMore}
use Rattle.caldate_args.specs.Holidays.{IsDayOf}
use Rattle.caldate_args.proofs.holidays.add_holidays.Goals as goal

pub returns-in-Date-clause-days : goal.returns-in-Date-clause-days
returns-in-Date-clause-days c =
    let a = c.args in
    subst (λ m. IfSome c.add_date.result (λ more. (n : ℕ) → Contains (take more c.add_date.new.days) n ↔ IsDayOf m n ⊎ Contains (take a.count a.days.now) n))
    (sym c.in-Date.is) c.add_date.ensures.days

pub returns-in-Date-clause-full : goal.returns-in-Date-clause-full
returns-in-Date-clause-full c =
    let a = c.args in
    let size : length a.days.now ≡ 8192 = omega (arith, c.told-days) in
    let full = rw size at c.add_date.ensures.full in
    subst (λ m. IfNone c.add_date.result (AreMore (λ n. IsDayOf m n ⊎ Contains (take a.count a.days.now) n) 8192)) (sym c.in-Date.is) full

pub returns-in-Rule-clause-days : goal.returns-in-Rule-clause-days
returns-in-Rule-clause-days c =
    let a = c.args in
    let from = rw c.to_date.ensures at c.add_rule.ensures.days in
    let days = rw c.to_date-in-Rule.ensures at from in
    subst (λ m. IfSome c.add_rule.result (λ more. (n : ℕ) → Contains (take more c.add_rule.new.days) n ↔ IsDayOf m n ⊎ Contains (take a.count a.days.now) n))
    (sym c.in-Rule.is) days

pub returns-in-Rule-clause-full : goal.returns-in-Rule-clause-full
returns-in-Rule-clause-full c =
    let a = c.args in
    let size : length a.days.now ≡ 8192 = omega (arith, c.told-days) in
    let from = rw c.to_date.ensures at c.add_rule.ensures.full in
    let through = rw c.to_date-in-Rule.ensures at from in
    let full = rw size at through in
    subst (λ m. IfNone c.add_rule.result (AreMore (λ n. IsDayOf m n ⊎ Contains (take a.count a.days.now) n) 8192)) (sym c.in-Rule.is) full

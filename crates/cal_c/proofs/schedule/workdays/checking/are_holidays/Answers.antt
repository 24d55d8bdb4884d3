use Rattle.std.proofs.Common.{◌≡◌, ℕ, ◌<◌, arith, length, rules, subst}
use Rattle.cal_c.specs.CheckedWorkdays.{IsNext}
use Rattle.cal_c.proofs.CheckedHolidays.{are-holidays, holidays-next, next-more}
use Rattle.cal_c.proofs.schedule.workdays.checking.are_holidays.Goals as goal

pub loop-index-preserved : goal.loop-index-preserved
loop-index-preserved c = next-more c.args.holidays.now c.loop-index.index c.loop-index.invariant (search rules)

pub returns : goal.returns
returns c =
    let done : c.loop-index.index ≡ length c.args.holidays.now = omega (arith, c.loop-index.auto.index-end, c.loop-index-test.false) in (
      λ t. are-holidays c.args.holidays.now (subst (λ n. (k : ℕ) → k < n → IsNext c.args.holidays.now k) done c.loop-index.invariant),
      λ are. search rules,
    )

pub returns-then-not-is_next : goal.returns-then-not-is_next
returns-then-not-is_next c =
    let not : ¬ IsNext c.args.holidays.now c.loop-index.index = search rules in
    (λ t. cc, λ are. absurd (not (holidays-next c.args.holidays.now are c.loop-index.index (omega arith))))

-- The days of a period that pass and have no position.
use Rattle.std.proofs.Common.{◌≡◌, ℕ, ◌+◌, ◌-◌, ◌*◌, ◌/◌, ◌%◌, ◌<◌, ◌≤◌, max, refl, sym, ap, ◌∙◌, arith, Bool, true, false, inl, inr}
use Rattle.std.proofs.Math.Nat.{mul_comm, div-add-mod}
use Rattle.std.proofs.lemmas.Bool.{cases_Bool, cases_lt}
use Rattle.cal_time.specs.Date.{last_day}
use Rattle.cal_time.specs.IsoWeekDate.{count_before}
use Rattle.cal_schedule.specs.Ranks.{count-next, count-rises, count-weeks}
use Rattle.cal_schedule.specs.Rule.{allows, is_nth, is_occurrence, passes}
use Rattle.cal_schedule.specs.RuleSearch.{IsPeriodEnd, IsPeriodStart, NoDayBetween, PassesByWeekday}
use Rattle.cal_schedule.specs.declared.rule.rule.Rule.{Rule}
use Rattle.cal_schedule.proofs.WeeklyRules.{repeats}
use Rattle.cal_schedule.proofs.RulePositions.{end-moved, moved, none-one, off-fails, off-position, positions-are, start-moved}

-- Day n passes and has no position, by its numbers from the start and from the end.
record IsOff (rule : Rule) (n s e ahead back : ℕ) : Type 0 where
  first : IsPeriodStart rule n s
  end : IsPeriodEnd rule n e
  on : passes rule n ≡ true
  ahead_is : ahead + count_before (passes rule) s ≡ count_before (passes rule) (n + 1)
  back_is : back + count_before (passes rule) n ≡ count_before (passes rule) e
  off : allows (λ k. is_nth k ahead back) rule.pattern.set_positions ≡ false

-- The next days that pass have no position, as many as `days`.
abbrev pub HaveNone : Rule → ℕ → ℕ → ℕ → Type 0
HaveNone rule ahead back days = (k : ℕ) → 1 ≤ k → k ≤ days → allows (λ p. is_nth p (ahead + k) (back - k)) rule.pattern.set_positions ≡ false

pub one_more_none : (rule : Rule) (ahead back days a b : ℕ) → a ≡ ahead + (days + 1) → b ≡ back - (days + 1) → allows (λ p. is_nth p a b) rule.pattern.set_positions ≡ false
    → HaveNone rule ahead back days → HaveNone rule ahead back (days + 1)
one_more_none rule ahead back days a b e f off none k some most = elim (cases_lt days k) as (λ _. allows (λ p. is_nth p (ahead + k) (back - k)) rule.pattern.set_positions ≡ false) [
  | inr less ↦ none k some less
  | inl more ↦
      let front : ahead + k ≡ a = omega (arith, e, most, more) in
      let rear : back - k ≡ b = omega (arith, f, most, more) in
      ap (λ i. allows (λ p. is_nth p i (back - k)) rule.pattern.set_positions) front ∙ ap (λ i. allows (λ p. is_nth p a i) rule.pattern.set_positions) rear ∙ off
]

later-off : (rule : Rule) (n s e ahead back days x k : ℕ) → IsOff rule n s e ahead back → HaveNone rule ahead back days → x ≤ e → count_before (passes rule) x ≤ count_before (passes rule) (n + 1) + days
    → n < k → k < x → passes rule k ≡ true → is_occurrence rule k ≡ false
later-off rule n s e ahead back days x k h none within few low high on =
    let here = count-next (passes rule) n true 1 (sym h.on) refl in
    let next = count-next (passes rule) k true 1 (sym on) refl in
    let from = count-rises (passes rule) (n + 1) k (omega arith) in
    let to = count-rises (passes rule) (k + 1) x (omega arith) in
    let all = count-rises (passes rule) k e (omega arith) in
    let j = count_before (passes rule) (k + 1) - count_before (passes rule) (n + 1) in
    let same = moved rule n k e (omega arith) (omega arith) h.end in
    off-position rule k (sym (positions-are rule k s e (ahead + j) (back - j) (start-moved rule n k s (omega arith) same h.first) (end-moved rule n k e (omega arith) same h.end)
    (omega (arith, h.ahead_is, next, from)) (omega (arith, h.back_is, here, next, from, all)))
    ∙ none j (omega (arith, next, from)) (omega (arith, to, few)))

unreached : (rule : Rule) (n s e ahead back days x : ℕ) → IsOff rule n s e ahead back → HaveNone rule ahead back days → x ≤ e → count_before (passes rule) x ≤ count_before (passes rule) (n + 1) + days
    → NoDayBetween rule n x
unreached rule n s e ahead back days x h none within few k low high = elim (cases_lt n k) as (λ _. is_occurrence rule k ≡ false) [
  | inr most ↦
      none-one rule n (off-position rule n (sym (positions-are rule n s e ahead back h.first h.end h.ahead_is h.back_is) ∙ h.off)) k low (omega arith)
  | inl later ↦ elim (cases_Bool (passes rule k)) as (λ _. is_occurrence rule k ≡ false) [
    | inl on ↦ later-off rule n s e ahead back days x k h none within few later high on
    | inr off ↦ off-fails rule k off
  ]
]

-- No day of the period is left.
pub to_end : (rule : Rule) (n s e ahead back days : ℕ) → IsPeriodStart rule n s → IsPeriodEnd rule n e → passes rule n ≡ true
    → ahead + count_before (passes rule) s ≡ count_before (passes rule) (n + 1) → back + count_before (passes rule) n ≡ count_before (passes rule) e
    → allows (λ k. is_nth k ahead back) rule.pattern.set_positions ≡ false → HaveNone rule ahead back days → days + 1 ≡ back → NoDayBetween rule n e
to_end rule n s e ahead back days first end on a b off none all =
    let here = count-next (passes rule) n true 1 (sym on) refl in
    unreached rule n s e ahead back days e (record { first = first; end = end; on = on; ahead_is = a; back_is = b; off = off }) none (omega arith) (omega (arith, here, b, all))

-- Whole weeks have no day of the rule.
pub over_weeks : (rule : Rule) (n s e ahead back days week weeks : ℕ) → IsPeriodStart rule n s → IsPeriodEnd rule n e → passes rule n ≡ true
    → ahead + count_before (passes rule) s ≡ count_before (passes rule) (n + 1) → back + count_before (passes rule) n ≡ count_before (passes rule) e
    → allows (λ k. is_nth k ahead back) rule.pattern.set_positions ≡ false → HaveNone rule ahead back days → days < back → PassesByWeekday rule
    → week + count_before (passes rule) n ≡ count_before (passes rule) (n + 7) → weeks ≡ days / max week 1 → (n + 7 * weeks ≤ e) × NoDayBetween rule n (n + 7 * weeks)
over_weeks rule n s e ahead back days week weeks first end on a b off none fewer h is by =
    let same = repeats rule h in
    let here = count-next (passes rule) n true 1 (sym on) refl in
    let one : 1 * 7 + n ≡ n + 7 = omega arith in
    let each : week ≡ count_before (passes rule) 7 = omega (arith, is, ap (count_before (passes rule)) one, count-weeks (passes rule) same 1 n) in
    let rises = count-rises (passes rule) (n + 1) (n + 7) (omega arith) in
    let some : max week 1 ≡ week = omega (arith, is, here, rises) in
    let product : weeks * week ≤ days = omega (arith, ap (λ k. k * week) by, ap (λ k. days / k * week) some, mul_comm (days / week) week, div-add-mod days week) in
    let all : weeks * 7 + n ≡ n + 7 * weeks = omega arith in
    let count : count_before (passes rule) (n + 7 * weeks) ≡ weeks * week + count_before (passes rule) n =
    ap (count_before (passes rule)) (sym all) ∙ count-weeks (passes rule) same weeks n ∙ ap (λ k. weeks * k + count_before (passes rule) n) (sym each) in
    let within : n + 7 * weeks ≤ e = elim (cases_lt e (n + 7 * weeks)) as (λ _. n + 7 * weeks ≤ e) [
      | inl past ↦ absurd (omega (arith, count-rises (passes rule) e (n + 7 * weeks) (omega arith), count, product, b, fewer))
      | inr most ↦ most
    ] in
    (within, unreached rule n s e ahead back days (n + 7 * weeks) (record { first = first; end = end; on = on; ahead_is = a; back_is = b; off = off }) none within (omega (arith, count, product, here)))

pub ruleset skips = (to_end, over_weeks)

-- ---- the count of days that pass by their weekday
-- The days of some weeks and of `days` more, from day `first` on and before day `end`.
pub counted_weeks : (rule : Rule) (first weeks days week rest end : ℕ) → PassesByWeekday rule → week + count_before (passes rule) first ≡ count_before (passes rule) (first + 7)
    → rest + count_before (passes rule) first ≡ count_before (passes rule) (first + days) → end ≡ weeks * 7 + (first + days)
    → weeks * week + rest + count_before (passes rule) first ≡ count_before (passes rule) end
counted_weeks rule first weeks days week rest end h is more at =
    let one : 1 * 7 + first ≡ first + 7 = omega arith in
    let each : week ≡ count_before (passes rule) 7 = omega (arith, is, ap (count_before (passes rule)) one, count-weeks (passes rule) (repeats rule h) 1 first) in
    omega (arith, more, ap (count_before (passes rule)) at, count-weeks (passes rule) (repeats rule h) weeks (first + days), ap (λ k. weeks * k) each)

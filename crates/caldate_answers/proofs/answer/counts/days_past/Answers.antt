use Rattle.std.proofs.Common.{◌≡◌, ◌∙◌, rules, ap, arith, subst, sym, to_z, of_z, w64, ℤ, pos, neg_ℤ, ◌-ℤ◌, ◌≤ℤ◌, FitsSigned}
use Rattle.std.proofs.lemmas.Grind.{common_steps}
use Rattle.std.proofs.lemmas.Int.{ints}
use Rattle.cal_time.specs.SignedDuration.{cut, day, whole_days}
use Rattle.cal_time.specs.UtcOffset.{IsOffset}
use Rattle.cal_datetime.specs.DateTime.{date_at, IsDateTime}
use Rattle.caldate_answers.specs.Counts.{duration_between, reached}
use Rattle.caldate_answers.proofs.Outside.{clamp, near}
use Rattle.caldate_answers.proofs.answer.counts.days_past.Goals as goal

abbrev past : goal.After-whole_days → ℤ
past c = reached c.args.from c.args.to -ℤ pos c.args.last

bounds : (c : goal.After-whole_days) → (neg_ℤ (pos 3) ≤ℤ past c) × (past c ≤ℤ pos 3)
bounds c =
    let far = near c.args.from c.args.to (subst IsDateTime c.local.ensures.value c.local.ensures.range) (subst IsOffset c.offset.ensures.value c.offset.ensures.range)
    (subst IsDateTime c.local-2.ensures.value c.local-2.ensures.range) (subst IsOffset c.offset-2.ensures.value c.offset-2.ensures.range) in
    let at = clamp (reached c.args.from c.args.to) in
    (omega (arith, ints, c.requires, at.2 far.0), omega (arith, ints, c.requires, at.3 far.1))

-- the days are few, so that no sum wraps
days : (c : goal.After-whole_days) → to_z w64 (of_z w64 (to_z w64 (of_z w64 c.from.result) -ℤ to_z w64 (of_z w64 c.from-2.result))) ≡ pos c.args.last -ℤ pos (date_at c.args.from.local)
days c =
    first_of (
      omega (arith, ints, c.from.ensures, c.from-2.ensures, c.to_julian_day.ensures.value, c.to_julian_day-2.ensures.value, c.date.ensures.value, c.to_julian_day.ensures.in_range, c.to_julian_day-2.ensures.in_range),
      grind (arith, ints, common_steps),
      search rules,
    )

same : (c : goal.After-whole_days) → to_z w64 (of_z w64 c.whole_days.result) -ℤ to_z w64 (of_z w64 (to_z w64 (of_z w64 c.from.result) -ℤ to_z w64 (of_z w64 c.from-2.result))) ≡ past c
same c =
    let whole : c.whole_days.result ≡ whole_days (duration_between c.args.from c.args.to) = c.whole_days.ensures ∙ ap (λ d. cut d (pos day)) c.between.ensures in
    let kept : to_z w64 (of_z w64 c.whole_days.result) ≡ c.whole_days.result = first_of (omega (arith, ints, c.whole_days.type_inv), search rules) in
    omega (arith, ints, days c, kept, whole)

pub overflow_sub-result : goal.overflow_sub-result
overflow_sub-result c =
    let b = bounds c in
    let fits : FitsSigned w64 (past c) = first_of (omega (arith, ints, b.0, b.1), search rules, grind (arith, ints, common_steps)) in
    subst (FitsSigned w64) (sym (same c)) fits

pub returns-clause-value : goal.returns-clause-value
returns-clause-value c = let b = bounds c in let e = same c in first_of (omega (arith, ints, b.0, b.1, e), grind (arith, ints, common_steps), search rules)

pub returns-clause-min : goal.returns-clause-min
returns-clause-min c = let b = bounds c in let e = same c in first_of (omega (arith, ints, b.0, b.1, e), grind (arith, ints, common_steps), search rules)

pub returns-clause-max : goal.returns-clause-max
returns-clause-max c = let b = bounds c in let e = same c in first_of (omega (arith, ints, b.0, b.1, e), grind (arith, ints, common_steps), search rules)

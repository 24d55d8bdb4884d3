use Rattle.std.proofs.Common.{◌≡◌, ◌∙◌, rules, arith, to_z, of_z, w64, pos, ◌+ℤ◌, ◌<ℤ◌}
use Rattle.std.proofs.lemmas.Grind.{common_steps}
use Rattle.std.proofs.lemmas.Int.{ints, by_lt_z}
use Rattle.cal_time.specs.Date.{last_day}
use Rattle.cal_datetime.specs.DateTime.{date_at}
use Rattle.caldate_answers.specs.Counts.{reached}
use Rattle.caldate_answers.proofs.Outside.{clamp, months_reached, months_within}
use Rattle.caldate_answers.proofs.answer.counts.months_to.Goals as goal

pub returns-then-past-eq0 : goal.returns-then-past-eq0
returns-then-past-eq0 c =
    let until = c.months_until.ensures in
    let last = c.clamped_to-last.result in
    let months = to_z w64 (of_z w64 c.from.result) in
    let same : months ≡ c.months_until.result = first_of (omega (arith, ints, c.from.ensures), grind (arith, ints, common_steps), search rules) in
    let at : reached c.args.from c.args.to ≡ pos last = omega (arith, ints, c.days_past-past.ensures.value, c.if-past-eq0.true) in
    months_reached (date_at c.args.from.local) c.date.result (reached c.args.from c.args.to) (pos last) months c.months_until.result c.date.ensures.value at same
    (months_within c.date.result last c.months_until.result until.in_range.0 until.in_range.1 until.value_forward until.value_backward until.min until.max)

pub returns-else-past-eq0 : goal.returns-else-past-eq0
returns-else-past-eq0 c =
    let past = c.days_past-past.result in
    let day = reached c.args.from c.args.to in
    let days = c.days_past-past.ensures in
    let kept : to_z w64 (of_z w64 past) ≡ past = first_of (omega (arith, ints, days.min, days.max), grind (arith, ints, common_steps), search rules) in
    let months = to_z w64 (of_z w64 c.months_past.result) in
    let same : months ≡ c.months_past.result = first_of (omega (arith, ints, c.months_past.type_inv), search rules) in
    let ends = clamp day in
    by_lt_z (pos 0) past (λ more.
    let last : c.clamped_to-last.result ≡ last_day = c.clamped_to-last.ensures ∙ ends.0 (omega (arith, ints, more, days.value, c.clamped_to-last.ensures)) in
    months_reached (date_at c.args.from.local) c.date-else-past-eq0.result day (pos last_day +ℤ to_z w64 (of_z w64 past)) months c.months_past.result c.date-else-past-eq0.ensures.value
    (omega (arith, ints, kept, last, days.value)) same (c.months_past.ensures.after (omega (arith, ints, kept, more)))) (λ most.
    let less : past <ℤ pos 0 = first_of (omega (arith, ints, most, kept, c.if-past-eq0.false), grind (arith, ints, common_steps), search rules) in
    let first : c.clamped_to-last.result ≡ 0 = c.clamped_to-last.ensures ∙ ends.1 (omega (arith, ints, less, days.value, c.clamped_to-last.ensures)) in
    months_reached (date_at c.args.from.local) c.date-else-past-eq0.result day (to_z w64 (of_z w64 past)) months c.months_past.result c.date-else-past-eq0.ensures.value
    (omega (arith, ints, kept, first, days.value)) same (c.months_past.ensures.before (omega (arith, ints, kept, less))))

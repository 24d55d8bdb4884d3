use Rattle.std.proofs.Common.{inl, inr, rules, arith, pos, ◌+ℤ◌, ◌-ℤ◌, ◌≤ℤ◌, ◌<ℤ◌, neg_ℤ}
use Rattle.std.proofs.lemmas.Grind.{common_steps}
use Rattle.std.proofs.lemmas.Int.{ints}
use Rattle.cal_time.specs.Date.{day_of_month_at}
use Rattle.caldate_answers.proofs.Outside.{past_after, past_before}
use Rattle.caldate_answers.proofs.answer.counts.months_past.Goals as goal

pub returns-then-from-past-clause-after : goal.returns-then-from-past-clause-after
returns-then-from-past-clause-after c = λ some.
    let number = c.month_number_and_day-number.ensures in
    let m = pos 23999988 -ℤ pos c.month_number_and_day-number.result.0 in
    let early : pos (day_of_month_at c.args.from) ≤ℤ c.args.past = first_of (omega (arith, ints, number.day, c.from.ensures, c.if-from-past.true), grind (arith, ints, common_steps), search rules) in
    past_after c.args.from c.args.past m _ number.in_range (omega (arith, number.day, number.max)) some c.requires.max (omega (arith, ints, number.month))
    (inl (early, first_of (omega (arith, ints, number.number, c.from-months.ensures), grind (arith, ints, common_steps), search rules)))

pub returns-else-from-past-clause-after : goal.returns-else-from-past-clause-after
returns-else-from-past-clause-after c = λ some.
    let number = c.month_number_and_day-number.ensures in
    let m = pos 23999988 -ℤ pos c.month_number_and_day-number.result.0 in
    let late : c.args.past <ℤ pos (day_of_month_at c.args.from) = first_of (omega (arith, ints, number.day, c.from.ensures, c.if-from-past.false), grind (arith, ints, common_steps), search rules) in
    past_after c.args.from c.args.past m _ number.in_range (omega (arith, number.day, number.max)) some c.requires.max (omega (arith, ints, number.month))
    (inr (late, first_of (omega (arith, ints, number.number, c.from-months.ensures), grind (arith, ints, common_steps), search rules)))

pub returns-then-past-from-clause-before : goal.returns-then-past-from-clause-before
returns-then-past-from-clause-before c = λ some.
    let number = c.month_number_and_day-number.ensures in
    let m = neg_ℤ (pos 1) -ℤ pos c.month_number_and_day-number.result.0 in
    let late : (pos 32 +ℤ c.args.past) ≤ℤ pos (day_of_month_at c.args.from) = first_of (omega (arith, ints, number.day, c.from-else-past-gt0.ensures, c.if-past-from.true), grind (arith, ints, common_steps), search rules) in
    past_before c.args.from c.args.past m _ (omega (arith, number.day, number.max)) some c.requires.min (omega (arith, ints, number.month))
    (inl (late, first_of (omega (arith, ints, number.number, c.from-months-else-past-gt0.ensures), grind (arith, ints, common_steps), search rules)))

pub returns-else-past-from-clause-before : goal.returns-else-past-from-clause-before
returns-else-past-from-clause-before c = λ some.
    let number = c.month_number_and_day-number.ensures in
    let m = neg_ℤ (pos 1) -ℤ pos c.month_number_and_day-number.result.0 in
    let early : pos (day_of_month_at c.args.from) <ℤ (pos 32 +ℤ c.args.past) = first_of (omega (arith, ints, number.day, c.from-else-past-gt0.ensures, c.if-past-from.false), grind (arith, ints, common_steps), search rules) in
    past_before c.args.from c.args.past m _ (omega (arith, number.day, number.max)) some c.requires.min (omega (arith, ints, number.month))
    (inr (early, first_of (omega (arith, ints, number.number, c.from-months-else-past-gt0.ensures), grind (arith, ints, common_steps), search rules)))

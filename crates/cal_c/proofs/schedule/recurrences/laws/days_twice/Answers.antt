use Rattle.std.proofs.Common.{◌≡◌, refl, arith, ap, length, subst, sym, to_z, of_z, w32}
use Rattle.cal_recurrence.specs.Text.{day_recurrence_of}
use Rattle.cal_c.proofs.OneAnswer.{decided, recurrence-one, Clauses}
use Rattle.cal_c.proofs.schedule.recurrences.laws.days_twice.Goals as goal

both : (c : goal.After-others-1)
    → (c.fots_recurrence_days.result ≡ c.fots_recurrence_days-2.result) × (c.fots_recurrence_days.new.days ≡ c.fots_recurrence_days-2.new.days)
both c =
    let one = c.fots_recurrence_days in
    let other = c.fots_recurrence_days-2 in
    let start = to_z w32 (of_z w32 c.args.start) in
    let from = to_z w32 (of_z w32 c.args.from) in
    let lengths : length one.new.days ≡ length other.new.days = omega (arith, one.auto.days, other.auto.days, ap length c.requires) in
    recurrence-one c.args.text.now start from c.args.days.now _ _ _ _ (day_recurrence_of c.args.text.now) refl
    (decided _ _ c.valid_date.ensures) (decided _ _ c.valid_date-2.ensures) lengths
    (record { unread = one.ensures.error; invalid_date = one.ensures.invalid_date; days = one.ensures.value })
    (subst (λ old. Clauses c.args.text.now start from old other.new.days other.result) (sym c.requires)
    (record { unread = other.ensures.error; invalid_date = other.ensures.invalid_date; days = other.ensures.value }))

pub returns-clause-value : goal.returns-clause-value
returns-clause-value c = (both c).0

pub returns-clause-days : goal.returns-clause-days
returns-clause-days c = (both c).1

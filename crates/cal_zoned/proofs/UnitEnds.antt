-- The first and the last instant of a unit, and moved date-times.
use Rattle.std.proofs.Common.{◌≡◌, ℕ, ◌+◌, sym, ap, subst, arith, inl, inr, ◌∙◌}
use Rattle.std.specs.Prelude.{ℤ, pos, ◌-ℤ◌, Option, Some, None, Result, IfNone, SomeIff}
use Rattle.std.proofs.lemmas.Bool.{cases_eq}
use Rattle.cal_time.specs.Date.{IsDate}
use Rattle.cal_datetime.specs.DateTime.{IsDateTime, date_at, date_time}
use Rattle.cal_schedule.specs.Units.{IsLastOf}
use Rattle.cal_schedule.specs.declared.unit.CalendarUnit.{CalendarUnit}
use Rattle.cal_schedule.proofs.OneAnswer.{first_of-one, last_of-one}
use Rattle.cal_zone.specs.Local.{IsLocalOf}
use Rattle.cal_zone.specs.declared.local.Local.{Local}
use Rattle.cal_zone.specs.declared.policy.Policy.{Policy}
use Rattle.cal_zone.specs.declared.local_time_error.LocalTimeError.{LocalTimeError}
use Rattle.cal_zone.specs.Timeline.{Timeline}
use Rattle.cal_zoned.specs.Day.{IsStart}
use Rattle.cal_zoned.specs.Moves.{IsMovedTo, IsNextStart, IsStartOf}
use Rattle.cal_zoned.specs.Zoned.{InZone, instant_in, reading_at}
use Rattle.cal_zoned.proofs.Firsts.{start-one}
use Rattle.cal_zoned.proofs.OneResult.{resolved-one}

pub no_end : (r : Option InZone) (A : Type 0) → A → IfNone r A
no_end None A a = a
no_end (Some v) A a = tt

-- the last day of a unit is the one before its next start
pub next_day : (unit : CalendarUnit) (m s : InZone) (n d : ℕ) → IsDate d → n ≡ date_at m.moment.local → IsLastOf unit n d → (h : IsNextStart unit m s) → d ≡ h.day
next_day unit m s n d inside e last h =
    let next = h.next in
    last_of-one unit (date_at m.moment.local) d h.day inside (omega (arith, next)) (subst (λ (k : ℕ). IsLastOf unit k d) e last) h.last

only_value : (v w : InZone) → Some v ≡ Some w → v ≡ w
only_value v w e = cc

-- its start is the only one
pub next_start : (unit : CalendarUnit) (m s v : InZone) (zone : Timeline) (n d next : ℕ) → IsDate d → n ≡ date_at m.moment.local → IsLastOf unit n d → next ≡ d + 1 → zone ≡ m.zone
    → IsStart zone (date_time next 0) (Some v) → IsNextStart unit m s → v ≡ s
next_start unit m s v zone n d next inside e last f same start h =
    let day : next ≡ h.day + 1 = f ∙ ap (λ (k : ℕ). k + 1) (next_day unit m s n d inside e last h) in
    let own = subst (λ (t : Timeline). IsStart t (date_time (h.day + 1) 0) (Some v)) same (subst (λ (k : ℕ). IsStart zone (date_time k 0) (Some v)) day start) in
    only_value v s (start-one m.zone (date_time (h.day + 1) 0) (Some v) (Some s) own h.start)

-- no end
pub none_before : (unit : CalendarUnit) (m v w : InZone) (d : ℤ) (r : Option InZone) → d ≡ pos 1 → SomeIff r (IsDateTime (reading_at v.zone (instant_in v -ℤ d))) w → ((s : InZone) → IsNextStart unit m s → v ≡ s)
    → IfNone r ((s : InZone) → IsNextStart unit m s → ¬ IsDateTime (reading_at s.zone (instant_in s -ℤ pos 1)))
none_before unit m v w d (Some x) e h only = tt
none_before unit m v w d None e h only = λ s start inside.
    h (subst (λ (x : ℤ). IsDateTime (reading_at v.zone (instant_in v -ℤ x))) (sym e) (subst (λ (x : InZone). IsDateTime (reading_at x.zone (instant_in x -ℤ pos 1))) (sym (only s start)) inside))

-- ---- one answer
pub next_start-one : (unit : CalendarUnit) (m s t : InZone) → IsNextStart unit m s → IsNextStart unit m t → s ≡ t
next_start-one unit m s t h k =
    let next = h.next in
    next_start unit m t s m.zone (date_at m.moment.local) h.day (h.day + 1) (omega (arith, next)) (λ i. date_at m.moment.local) h.last (λ i. h.day + 1) (λ i. m.zone) h.start k

pub start_of-one : (unit : CalendarUnit) (m : InZone) (a b : Option InZone) → IsStartOf unit m a → IsStartOf unit m b → a ≡ b
start_of-one unit m a b h k =
    let day = first_of-one unit (date_at m.moment.local) h.day k.day h.in_range k.in_range h.first k.first in
    start-one m.zone (date_time k.day 0) a b (subst (λ (n : ℕ). IsStart m.zone (date_time n 0) a) day h.start) k.start

pub moved_to-one : (p : Policy) (m : InZone) (n : ℕ) (a b : Result InZone LocalTimeError) → ((r : ℤ) (x y : Local) → IsLocalOf m.zone r x → IsLocalOf m.zone r y → x ≡ y)
    → IsMovedTo p m n a → IsMovedTo p m n b → a ≡ b
moved_to-one p m n a b one h k =
    elim (cases_eq (date_at m.moment.local) n) as (λ _. a ≡ b) [
      | inl same ↦ h.stays same ∙ sym (k.stays same)
      | inr other ↦ resolved-one p m.zone _ a b one (h.moved other) (k.moved other)
    ]

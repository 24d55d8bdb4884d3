-- A date or moment has one that is a period later, and one nearest multiple, and two have one period.
use Rattle.std.proofs.Common.{◌≡◌, ◌∙◌, ℕ, zero, suc, ℤ, pos, Option, Some, None, ap, refl, sym, subst, arith}
use Rattle.std.specs.Prelude.{◌+ℤ◌, IfNone, IfSome, MatchOption}
use Rattle.cal_datetime.specs.DateTime.{IsDateTime, date_at, date_time, with_date}
use Rattle.cal_datetime.specs.OffsetDateTime.{LocalAndOffset, instant, local_at, unix_seconds}
use Rattle.cal_rounding.specs.declared.rounding_mode.RoundingMode.TheVariants.{HalfCeil}
use Rattle.cal_rounding.proofs.OneResult.{date_time-one}
use Rattle.cal_schedule.specs.Period.{Parts, days_of, months_of}
use Rattle.cal_schedule.specs.declared.unit.CalendarUnit.TheVariants.{Year}
use Rattle.cal_schedule.proofs.Periods.{one_days_later}
use Rattle.cal_text.specs.declared.any.DateOrMoment.{DateOrMoment}
use Rattle.cal_text.specs.declared.any.DateOrMoment.TheVariants.{Date, Moment}
use Rattle.cal_zone.specs.Timeline.{Timeline, offset_at}
use Rattle.cal_zoned.specs.Period.{IsLater}
use Rattle.cal_zoned.specs.Until.{IsUntilInZone}
use Rattle.cal_zoned.specs.Zoned.{InZone, at_instant, instant_in, reading_at}
use Rattle.cal_zoned.proofs.Firsts.{start-one}
use Rattle.cal_zoned.proofs.Instants.{instant_of}
use Rattle.cal_zoned.proofs.OneResult.{seen-is}
use Rattle.cal_zoned.proofs.PeriodsUntil.{period_until-one}
use Rattle.cal_zoned.proofs.UntilInZone.{until_in_zone-one}
use Rattle.caldate_answers.specs.Moves.{IsNearest}
use Rattle.caldate_answers.specs.Periods.{IsAfter, IsInZone, IsPeriodBetween, IsPeriodOn}
use Rattle.caldate_answers.specs.declared.request.Clock.{Clock}
use Rattle.caldate_answers.proofs.ClockMoves.{OneLocal, no_unit}

-- ---- a period later
local_after-one : (z : ℤ) (p : Parts) (a b : ℤ) → IsLater z p a → IsLater z p b → a ≡ b
local_after-one z p a b h k =
    h.exact ∙ ap (λ (d : ℕ). with_date z d +ℤ p.exact) (one_days_later (date_at z) h.day k.day (months_of p) (days_of p) h.moved k.moved) ∙ sym k.exact

pub one_after : (found : DateOrMoment) (p : Parts) (m k : LocalAndOffset) → IsAfter found p m → IsAfter found p k → m ≡ k
one_after (Date form n) p m k h i =
    h.midnight ∙ ap (λ (day : ℕ). record { local = date_time day 0; offset = pos 0 }) (one_days_later n h.day i.day (months_of p) (days_of p) h.after i.after) ∙ sym i.midnight
one_after (Moment form from) p m k h i =
    h.moved ∙ ap (λ (z : ℤ). record { local = z; offset = from.offset }) (local_after-one from.local p h.local i.local h.after i.after) ∙ sym i.moved

-- ---- the nearest multiple
only_some : {T : Type 0} (m k : T) → Some m ≡ Some k → m ≡ k
only_some m k e = cc

pub one_nearest : (n : ℕ) (from m k : LocalAndOffset) → IsNearest n from m → IsNearest n from k → m ≡ k
one_nearest zero from m k h i = absurd (no_unit _ _ h.rounded)
one_nearest (suc n) from m k h i = only_some m k (date_time-one HalfCeil (suc n) from.local (λ z. record { local = z; offset = from.offset }) (Some m) (Some k) (omega arith) h i)

-- ---- the period between two
pub one_period_between : (from to : LocalAndOffset) (p q : Parts) → IsPeriodBetween from to p → IsPeriodBetween from to q → p ≡ q
one_period_between from to p q h k = period_until-one Year from.local (local_at (instant to) from.offset) p q h.until k.until

in_zone-one : (zone : Timeline) (found : DateOrMoment) (a b : InZone) → IsInZone zone found a → IsInZone zone found b → a ≡ b
in_zone-one zone (Date form n) a b h k = only_some a b (start-one zone (date_time n 0) (Some a) (Some b) h k)
in_zone-one zone (Moment form from) a b h k = (seen-is zone (instant from) a h).1 ∙ sym (seen-is zone (instant from) b k).1

zone_of : (zone : Timeline) (found : DateOrMoment) (m : InZone) → IsInZone zone found m → m.zone ≡ zone
zone_of zone (Date form n) m h = ap (λ (x : InZone). x.zone) h.value.1
zone_of zone (Moment form from) m h = ap (λ (x : InZone). x.zone) (seen-is zone (instant from) m h).1

pub one_period_on : (clock : Clock) (from to : DateOrMoment) (p q : Parts) → OneLocal clock.zone → IsPeriodOn clock from to p → IsPeriodOn clock from to q → p ≡ q
one_period_on clock from to p q one h k =
    let start = in_zone-one clock.zone from h.start k.start h.first k.first in
    let end = in_zone-one clock.zone to h.end k.end h.last k.last in
    until_in_zone-one clock.policy Year k.start k.end p q (subst OneLocal (sym (zone_of clock.zone from k.start k.first)) one)
    (subst (λ (e : InZone). IsUntilInZone clock.policy Year k.start e p) end (subst (λ (s : InZone). IsUntilInZone clock.policy Year s h.end p) start h.until)) k.until

-- ---- what the clocks show
shown : (zone : Timeline) (found : DateOrMoment) (m : InZone) → IsInZone zone found m → (z : ℤ) × IsDateTime (reading_at zone z) × (m ≡ at_instant zone z)
shown zone (Date form n) m h = (h.instant, h.value.0, h.value.1)
shown zone (Moment form from) m h = let seen = seen-is zone (instant from) m h in (instant from, seen.0, seen.1)

own_instant : (zone : Timeline) (m : InZone) (z : ℤ) → m ≡ at_instant zone z → z ≡ instant_in m
own_instant zone m z e = sym (ap (λ (x : InZone). instant_in x) e ∙ instant_of (reading_at zone z) (offset_at zone (unix_seconds z)) z refl)

pub period_on-is : (clock : Clock) (from to : DateOrMoment) (start end : InZone) (r : Option Parts) → IsInZone clock.zone from start → IsInZone clock.zone to end
    → IfSome r (IsUntilInZone clock.policy Year start (at_instant start.zone (instant_in end))) → IfNone r (¬ IsDateTime (reading_at start.zone (instant_in end)))
    → MatchOption r ((p : Parts) → ¬ IsPeriodOn clock from to p) (IsPeriodOn clock from to)
period_on-is clock from to start end r first last value none = by_result r value none
  where
    zone : start.zone ≡ clock.zone
    zone = zone_of clock.zone from start first

    seen : (z : ℤ) × IsDateTime (reading_at clock.zone z) × (end ≡ at_instant clock.zone z)
    seen = shown clock.zone to end last

    instant_is : seen.0 ≡ instant_in end
    instant_is = own_instant clock.zone end seen.0 seen.2

    itself : at_instant start.zone (instant_in end) ≡ end
    itself = ap (λ (t : Timeline). at_instant t (instant_in end)) zone ∙ ap (at_instant clock.zone) (sym instant_is) ∙ sym seen.2

    inside : IsDateTime (reading_at start.zone (instant_in end))
    inside = subst (λ (t : Timeline). IsDateTime (reading_at t (instant_in end))) (sym zone) (subst (λ z. IsDateTime (reading_at clock.zone z)) instant_is seen.1)

    by_result : (r : Option Parts) → IfSome r (IsUntilInZone clock.policy Year start (at_instant start.zone (instant_in end))) → IfNone r (¬ IsDateTime (reading_at start.zone (instant_in end)))
        → MatchOption r ((p : Parts) → ¬ IsPeriodOn clock from to p) (IsPeriodOn clock from to)
    by_result None value none = absurd (none inside)
    by_result (Some p) value none = record { start = start; end = end; first = first; last = last; until = subst (λ (t : InZone). IsUntilInZone clock.policy Year start t p) itself value }

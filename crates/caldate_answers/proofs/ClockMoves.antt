-- A moment is moved to one moment by the clocks of a zone.
use Rattle.std.proofs.Common.{◌≡◌, ◌∙◌, ℕ, zero, suc, ℤ, Bool, true, false, Option, Result, Ok, Err, None, Some, arith, ap, refl, subst, sym}
use Rattle.std.proofs.lemmas.Int.{ints}
use Rattle.std.specs.Prelude.{◌==◌, IfSome, MatchBool, ok_or, pos, ◌+ℤ◌, ◌<ℤ◌}
use Rattle.cal_time.specs.Date.{IsDate}
use Rattle.cal_time.specs.SignedDuration.{whole_days}
use Rattle.cal_time.specs.SignedDuration as duration
use Rattle.cal_datetime.specs.DateTime.{IsDateTime, date_at, date_time}
use Rattle.cal_datetime.specs.OffsetDateTime.{LocalAndOffset, instant, unix_seconds}
use Rattle.cal_rounding.specs.InZone.{IsRoundedToDay}
use Rattle.cal_rounding.specs.Rounding.{IsRounded as IsRoundedNumber, RoundsTimeOf, distance, multiple}
use Rattle.cal_rounding.specs.declared.rounding_mode.RoundingMode.TheVariants.{HalfCeil}
use Rattle.cal_rounding.proofs.OneInZone.{day-one}
use Rattle.cal_rounding.proofs.OneResult.{date_time-one}
use Rattle.cal_schedule.specs.Period.{IsDaysLater, Parts, days_of, months_of}
use Rattle.cal_schedule.proofs.Periods.{no_value, one_days_later}
use Rattle.cal_schedule.specs.Workdays.{WorkWeek}
use Rattle.cal_zone.specs.Local.{IsLocalOf}
use Rattle.cal_zone.specs.Timeline.{Timeline, offset_at}
use Rattle.cal_zone.specs.declared.local.Local.{Local}
use Rattle.cal_zone.specs.declared.local_time_error.LocalTimeError.{LocalTimeError}
use Rattle.cal_zone.specs.declared.local_time_error.LocalTimeError.TheVariants.{OutOfRange}
use Rattle.cal_zone.specs.declared.policy.Policy.{Policy}
use Rattle.cal_zoned.specs.Day.{IsStart}
use Rattle.cal_zoned.specs.Resolved.{IsKept}
use Rattle.cal_zoned.specs.Zoned.{InZone, IsSeen, at_instant, instant_in, reading_at}
use Rattle.cal_zoned.proofs.Firsts.{start-one}
use Rattle.cal_zoned.proofs.Instants.{instant_of}
use Rattle.cal_zoned.proofs.OneResult.{kept-one, moved_by-one, seen-is}
use Rattle.cal_zoned.proofs.UnitEnds.{moved_to-one}
use Rattle.caldate_answers.specs.ClockMoves.{IsDayWith, IsKeptAt, IsMovedFrom, IsMovedIn, IsMovedOn, IsNearestOn, IsOnDay, IsPeriodOnDay, IsRounded, moment_in}
use Rattle.caldate_answers.specs.Moves.{MovesTo, floored}
use Rattle.caldate_answers.specs.declared.request.Clock.{Clock}
use Rattle.caldate_answers.specs.declared.request.Move.{Move}
use Rattle.caldate_answers.specs.declared.request.Move.TheVariants.{Day, Days, Add, Floor, Period, Round}
use Rattle.caldate_answers.proofs.Leads.{one_lead}

-- a reading of the clocks has one meaning
abbrev pub OneLocal : Timeline → Type 0
OneLocal zone = (r : ℤ) (x y : Local) → IsLocalOf zone r x → IsLocalOf zone r y → x ≡ y

-- each of two cases has one value
pub match_one : {X : Type 0} (b : Bool) (P Q : X → Type 0) (x y : X) → ((x y : X) → P x → P y → x ≡ y) → ((x y : X) → Q x → Q y → x ≡ y)
    → MatchBool b (P x) (Q x) → MatchBool b (P y) (Q y) → x ≡ y
match_one true P Q x y p q h k = p x y h k
match_one false P Q x y p q h k = q x y h k

-- an instant is seen in one way
seen-one : (zone : Timeline) (z : ℤ) (a b : Result InZone LocalTimeError) → IsSeen zone z a → IsSeen zone z b → a ≡ b
seen-one zone z (Ok x) (Ok y) h k = ap Ok ((seen-is zone z x h).1 ∙ sym (seen-is zone z y k).1)
seen-one zone z (Ok x) (Err e) h k = let no = k.value (seen-is zone z x h).0 in absurd cc
seen-one zone z (Err e) (Ok y) h k = let no = h.value (seen-is zone z y k).0 in absurd cc
seen-one zone z (Err e) (Err d) h k = h.error (λ i. let no = h.value i in cc) ∙ sym (k.error (λ i. let no = k.value i in cc))

-- ---- another day
day_with-one : (Has : ℕ → Type 0) (a b : Option ℕ) → ((x y : ℕ) → Has x → Has y → x ≡ y) → IsDayWith Has a → IsDayWith Has b → a ≡ b
day_with-one Has None None one h k = refl
day_with-one Has None (Some y) one h k = absurd (h y k)
day_with-one Has (Some x) None one h k = absurd (k x h)
day_with-one Has (Some x) (Some y) one h k = ap Some (one x y h k)

on_day-one : (policy : Policy) (from : InZone) (day : Option ℕ) (a b : Result InZone LocalTimeError) → OneLocal from.zone → IsOnDay policy from day a → IsOnDay policy from day b → a ≡ b
on_day-one policy from None a b one h k = h ∙ sym k
on_day-one policy from (Some n) a b one h k = moved_to-one policy from n a b one h k

abbrev IsOnDayWith : Policy → InZone → (ℕ → Type 0) → Result InZone LocalTimeError → Type 0
IsOnDayWith policy from Has r = (day : Option ℕ) × IsDayWith Has day × IsOnDay policy from day r

on_day_with-one : (policy : Policy) (from : InZone) (Has : ℕ → Type 0) (a b : Result InZone LocalTimeError) → OneLocal from.zone → ((x y : ℕ) → Has x → Has y → x ≡ y)
    → IsOnDayWith policy from Has a → IsOnDayWith policy from Has b → a ≡ b
on_day_with-one policy from Has a b one own h k =
    on_day-one policy from k.0 a b one (subst (λ day. IsOnDay policy from day a) (day_with-one Has h.0 k.0 own h.1 k.1) h.2) k.2

-- ---- a period later
pub day_with : (n : ℕ) (months days : ℤ) (day : Option ℕ) → ((k : ℕ) → IsDate k → IsDaysLater n months days k → day ≡ Some k) → IfSome day (λ k. IsDate k × IsDaysLater n months days k)
    → IsDayWith (λ k. IsDate k × IsDaysLater n months days k) day
day_with n months days None every value = λ k h. no_value k (every k h.0 h.1)
day_with n months days (Some k) every value = value

abbrev DayOf : Parts → InZone → ℕ → Type 0
DayOf p from n = IsDate n × IsDaysLater (date_at from.moment.local) (months_of p) (days_of p) n

by_day : (p : Parts) (from : InZone) (day : Option ℕ) → IsDayWith (DayOf p from) day → (n : ℕ) → IsDate n → IsDaysLater (date_at from.moment.local) (months_of p) (days_of p) n → day ≡ Some n
by_day p from None has n i j = absurd (has n (i, j))
by_day p from (Some x) has n i j = ap Some (one_days_later (date_at from.moment.local) x n (months_of p) (days_of p) has.1 j)

has_day : (p : Parts) (from : InZone) (day : Option ℕ) → IsDayWith (DayOf p from) day → IfSome day (DayOf p from)
has_day p from None has = tt
has_day p from (Some x) has = has

period-one : (policy : Policy) (p : Parts) (from : InZone) (a b : Result InZone LocalTimeError) → OneLocal from.zone → IsPeriodOnDay policy p from a → IsPeriodOnDay policy p from b → a ≡ b
period-one policy p from a b one h k =
    moved_by-one policy from (months_of p) (days_of p) p.exact a b one h.0 (by_day p from h.0 h.1) (has_day p from h.0 h.1) h.2 k.2

-- ---- the nearest multiple
-- no number is rounded to a multiple of 0
pub no_unit : (z r : ℤ) → IsRoundedNumber HalfCeil 0 z r → ⊥
no_unit z r h =
    let same : multiple 0 h.number ≡ multiple 0 (h.number +ℤ pos 1) = omega (arith, ints) in
    let less : (h.number +ℤ pos 1) <ℤ h.number = h.tie (h.number +ℤ pos 1) tt (λ e. absurd (omega (arith, ints, e))) (ap (distance z) (h.is_multiple ∙ same)) in
    absurd (omega (arith, ints, less))

local-one : (n : ℕ) (z : ℤ) (a b : Option ℤ) → RoundsTimeOf HalfCeil n z (λ (y : ℤ). y) a → RoundsTimeOf HalfCeil n z (λ (y : ℤ). y) b → a ≡ b
local-one zero z a b h k = absurd (no_unit _ _ h.rounded)
local-one (suc n) z a b h k = date_time-one HalfCeil (suc n) z (λ (y : ℤ). y) a b (omega arith) h k

kept_at-one : (policy : Policy) (from : InZone) (local : Option ℤ) (a b : Result InZone LocalTimeError) → OneLocal from.zone → IsKeptAt policy from local a → IsKeptAt policy from local b → a ≡ b
kept_at-one policy from None a b one h k = h ∙ sym k
kept_at-one policy from (Some z) a b one h k = kept-one policy from z a b one h k

abbrev IsNearestLocal : Policy → ℕ → InZone → Result InZone LocalTimeError → Type 0
IsNearestLocal policy n from r = (local : Option ℤ) × RoundsTimeOf HalfCeil n from.moment.local (λ (z : ℤ). z) local × IsKeptAt policy from local r

nearest_local-one : (policy : Policy) (n : ℕ) (from : InZone) (a b : Result InZone LocalTimeError) → OneLocal from.zone → IsNearestLocal policy n from a → IsNearestLocal policy n from b → a ≡ b
nearest_local-one policy n from a b one h k =
    kept_at-one policy from k.0 a b one (subst (λ (o : Option ℤ). IsKeptAt policy from o a) (local-one n from.moment.local h.0 k.0 h.1 k.1) h.2) k.2

-- the clocks show the date-time, which is in the range
abbrev IsShown : InZone → Type 0
IsShown from = (from.moment.offset ≡ offset_at from.zone (unix_seconds (instant_in from))) × IsDateTime from.moment.local

nearest_on-one : (policy : Policy) (n : ℕ) (from : InZone) (a b : Result InZone LocalTimeError) → OneLocal from.zone → IsShown from → IsNearestOn policy n from a → IsNearestOn policy n from b → a ≡ b
nearest_on-one policy n from a b one shown h k =
    match_one (n == duration.day) (IsRoundedToDay HalfCeil from) (IsNearestLocal policy n from) a b
    (λ x y p q. day-one HalfCeil from x y shown.0 shown.1 p q) (λ x y p q. nearest_local-one policy n from x y one p q) h k

shown_at : (zone : Timeline) (z : ℤ) → IsDateTime (reading_at zone z) → IsShown (at_instant zone z)
shown_at zone z inside = (ap (λ (y : ℤ). offset_at zone (unix_seconds y)) (sym (instant_of (reading_at zone z) (offset_at zone (unix_seconds z)) z refl)), inside)

shown_of : (zone : Timeline) (z : ℤ) (m : InZone) → IsSeen zone z (Ok m) → IsShown m
shown_of zone z m seen = subst IsShown (sym (seen-is zone z m seen).1) (shown_at zone z (seen-is zone z m seen).0)

-- ---- all moves
rounded-one : (policy : Policy) (n : ℕ) (from : InZone) (a b : Result InZone LocalTimeError) → OneLocal from.zone → IsRounded policy n from a → IsRounded policy n from b → a ≡ b
rounded-one policy n from a b one h k =
    match_one (n == 1440) (λ r. (start : Option InZone) × IsStart from.zone (date_time (date_at from.moment.local) 0) start × (r ≡ ok_or start OutOfRange)) (λ r. IsKept policy from (floored n from.moment).local r) a b
    (λ x y p q. p.2 ∙ ap (λ start. ok_or start OutOfRange) (start-one from.zone (date_time (date_at from.moment.local) 0) p.0 q.0 p.1 q.1) ∙ sym q.2)
    (λ x y p q. kept-one policy from (floored n from.moment).local x y one p q) h k

moved_in-one : (policy : Policy) (workdays : WorkWeek) (by : Move) (from : InZone) (a b : Result InZone LocalTimeError) → OneLocal from.zone → IsShown from
    → IsMovedIn policy workdays by from a → IsMovedIn policy workdays by from b → a ≡ b
moved_in-one policy workdays (Day by) from a b one shown h k =
    on_day_with-one policy from (MovesTo workdays by (date_at from.moment.local)) a b one (λ x y p q. one_lead workdays by (date_at from.moment.local) x y p q) h k
moved_in-one policy workdays (Days d) from a b one shown h k =
    on_day_with-one policy from (λ n. IsDate n × (pos n ≡ pos (date_at from.moment.local) +ℤ whole_days d)) a b one (λ x y p q. omega (arith, ints, p.1, q.1)) h k
moved_in-one policy workdays (Add d) from a b one shown h k = seen-one from.zone _ a b h k
moved_in-one policy workdays (Floor n) from a b one shown h k = rounded-one policy n from a b one h k
moved_in-one policy workdays (Period p) from a b one shown h k = period-one policy p from a b one h k
moved_in-one policy workdays (Round n) from a b one shown h k = nearest_on-one policy n from a b one shown h k

moved_from-one : (zone : Timeline) (z : ℤ) (policy : Policy) (workdays : WorkWeek) (by : Move) (here a b : Result InZone LocalTimeError) → OneLocal zone → IsSeen zone z here
    → IsMovedFrom policy workdays by here a → IsMovedFrom policy workdays by here b → a ≡ b
moved_from-one zone z policy workdays by (Ok m) a b one seen h k =
    moved_in-one policy workdays by m a b (subst OneLocal (sym (ap (λ (x : InZone). x.zone) (seen-is zone z m seen).1)) one) (shown_of zone z m seen) h k
moved_from-one zone z policy workdays by (Err e) a b one seen h k = h ∙ sym k

pub one_moved_on : (clock : Clock) (workdays : WorkWeek) (by : Move) (from : LocalAndOffset) (a b : Result LocalAndOffset LocalTimeError) → OneLocal clock.zone
    → IsMovedOn clock workdays by from a → IsMovedOn clock workdays by from b → a ≡ b
one_moved_on clock workdays by from a b one h k =
    let here = seen-one clock.zone (instant from) h.here k.here h.seen k.seen in
    let there = moved_from-one clock.zone (instant from) clock.policy workdays by k.here h.there k.there one k.seen (subst (λ x. IsMovedFrom clock.policy workdays by x h.there) here h.moved) k.moved in
    h.value ∙ ap moment_in there ∙ sym k.value

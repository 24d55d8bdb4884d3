-- The clauses of the calls for date-times in a zone leave one result.
use Rattle.std.proofs.Common.{◌≡◌, ◌∙◌, ◌==◌, ℕ, refl, sym, ap, arith}
use Rattle.std.proofs.lemmas.Int.{ints}
use Rattle.std.specs.Prelude.{if◌then◌else◌, Option, Result, ℤ, Ok, Err}
use Rattle.cal_time.specs.Date.{IsDate}
use Rattle.cal_datetime.specs.DateTime.{IsDateTime, date_at, date_time}
use Rattle.cal_schedule.specs.Period.{IsDaysLater, Parts}
use Rattle.cal_schedule.specs.declared.unit.CalendarUnit.{CalendarUnit}
use Rattle.cal_schedule.specs.declared.unit.CalendarUnit.TheVariants as units
use Rattle.cal_zone.specs.Timeline.{Timeline, InOrder}
use Rattle.cal_zone.specs.declared.local_time_error.LocalTimeError.{LocalTimeError}
use Rattle.cal_zone.specs.declared.policy.Policy.{Policy}
use Rattle.cal_zone.specs.declared.policy.Policy.TheVariants.{Compatible, Earlier, Later, Reject}
use Rattle.cal_zone.proofs.OneLocal.{local-one}
use Rattle.cal_zoned.specs.Day.{IsDayLength, IsStart}
use Rattle.cal_zoned.specs.Moves.{end_before, IsMovedTo}
use Rattle.cal_zoned.specs.Period.{IsExact, IsMovedBy, IsMovedThen, IsNthPeriodLater, IsPeriodLater}
use Rattle.cal_zoned.specs.Resolved.{IsKept, IsResolved}
use Rattle.cal_zoned.specs.Zoned.{at_instant, reading_at, InZone, IsSeen}
use Rattle.cal_zoned.proofs.Firsts.{first_from-one, start-one}
use Rattle.cal_zoned.proofs.OneResult.{kept-one, resolved-one}
use Rattle.cal_zoned.specs.Until.{IsUntilInZone}
use Rattle.cal_zoned.proofs.UnitEnds.{moved_to-one, next_start-one, start_of-one}
use Rattle.cal_zoned.proofs.UntilInZone.{until_in_zone-one}
use Rattle.cal_c.specs.Moments.{moment_ok}
use Rattle.cal_c.proofs.Stable.{by_number-one, either, need-one, of_field, stable_n, stable_z, Stable}
use Rattle.cal_c.specs.Periods.{exact_period_ok, parts_in, IsExactPeriodWith}
use Rattle.cal_c.specs.Results.{duration_ok}
use Rattle.cal_c.specs.Schedule.{unit_number}
use Rattle.cal_c.specs.Values.{need◌else◌then◌, day_of}
use Rattle.cal_c.specs.Zoned.{seconds_or_error, start_or_error, start_seconds_or_error, zoned_in, zoned_or_error, instant_at, IsDurationEarlier, IsDurationLater, IsEndOfUnit, IsEndResult, IsFromLocal, IsLaterSeconds, IsLengthOfDate, IsMovedToDate, IsNthPeriodResult, IsPeriodLaterResult, IsStartOfDate, IsStartOfUnit, IsStartOfUnitResult, IsStartSeconds, IsUntilInZoneResult, IsWithLocal, IsZonedAt, IsZonedWith}
use Rattle.cal_c.specs.Zones.{policy_number}
use Rattle.cal_c.specs.declared.results.Duration.{Duration}
use Rattle.cal_c.specs.declared.results.DurationResult.{DurationResult}
use Rattle.cal_c.specs.declared.results.Int64Result.{Int64Result}
use Rattle.cal_c.specs.declared.results.Moment.{Moment}
use Rattle.cal_c.specs.declared.results.MomentResult.{MomentResult}
use Rattle.cal_c.specs.declared.schedule.pair_periods.ExactPeriodResult.{ExactPeriodResult}
use Rattle.cal_c.specs.declared.schedule.periods.PeriodParts.{PeriodParts}

-- ---- results are equal if they aren't unequal
pub stable_moment : (r s : MomentResult) → Stable (r ≡ s)
stable_moment r s never =
    let status = stable_z r.status s.status (of_field (λ (x : MomentResult). x.status) r s never) in
    let unused = stable_n r.unused s.unused (of_field (λ (x : MomentResult). x.unused) r s never) in
    let date = stable_z r.moment.date s.moment.date (of_field (λ (x : MomentResult). x.moment.date) r s never) in
    let offset = stable_z r.moment.offset s.moment.offset (of_field (λ (x : MomentResult). x.moment.offset) r s never) in
    let time = stable_n r.moment.time s.moment.time (of_field (λ (x : MomentResult). x.moment.time) r s never) in
    λ i. record { status = status i; unused = unused i; moment = record { date = date i; offset = offset i; time = time i } }

pub stable_duration : (r s : DurationResult) → Stable (r ≡ s)
stable_duration r s never =
    let status = stable_z r.status s.status (of_field (λ (x : DurationResult). x.status) r s never) in
    let unused = stable_n r.unused s.unused (of_field (λ (x : DurationResult). x.unused) r s never) in
    let seconds = stable_z r.duration.seconds s.duration.seconds (of_field (λ (x : DurationResult). x.duration.seconds) r s never) in
    let nanoseconds = stable_z r.duration.nanoseconds s.duration.nanoseconds (of_field (λ (x : DurationResult). x.duration.nanoseconds) r s never) in
    let past = stable_n r.duration.unused s.duration.unused (of_field (λ (x : DurationResult). x.duration.unused) r s never) in
    λ i. record { status = status i; unused = unused i; duration = record { seconds = seconds i; nanoseconds = nanoseconds i; unused = past i } }

stable_int64 : (r s : Int64Result) → Stable (r ≡ s)
stable_int64 r s never =
    let status = stable_z r.status s.status (of_field (λ (x : Int64Result). x.status) r s never) in
    let unused = stable_n r.unused s.unused (of_field (λ (x : Int64Result). x.unused) r s never) in
    let number = stable_z r.number s.number (of_field (λ (x : Int64Result). x.number) r s never) in
    λ i. record { status = status i; unused = unused i; number = number i }

-- ---- numbers of policies and units
policy_of : ℕ → Policy
policy_of n = if n == 0 then Compatible else if n == 1 then Earlier else if n == 2 then Later else Reject

policy-known : (p : Policy) → policy_of (policy_number p) ≡ p
unfolding policy_of
policy-known Compatible = refl
policy-known Earlier = refl
policy-known Later = refl
policy-known Reject = refl

unit_of : ℕ → CalendarUnit
unit_of n = if n == 1 then units.Day else if n == 2 then units.Week else if n == 3 then units.Month else if n == 4 then units.Quarter else units.Year

unit-known : (u : CalendarUnit) → unit_of (unit_number u) ≡ u
unfolding unit_of
unit-known units.Day = refl
unit-known units.Week = refl
unit-known units.Month = refl
unit-known units.Quarter = refl
unit-known units.Year = refl

by_policy-one : {R : Type 0} (k : ℕ) (Is : Policy → R → Type 0) (r s : R) → ((p : Policy) → Is p r → Is p s → r ≡ s) → (p : Policy) × (policy_number p ≡ k) × Is p r
    → (p : Policy) × (policy_number p ≡ k) × Is p s → r ≡ s
by_policy-one k = by_number-one policy_number policy_of policy-known k

pub by_unit-one : {R : Type 0} (k : ℕ) (Is : CalendarUnit → R → Type 0) (r s : R) → ((u : CalendarUnit) → Is u r → Is u s → r ≡ s) → (u : CalendarUnit) × (unit_number u ≡ k) × Is u r
    → (u : CalendarUnit) × (unit_number u ≡ k) × Is u s → r ≡ s
by_unit-one k = by_number-one unit_number unit_of unit-known k

-- ---- results, through any function of a date-time in a zone or an error
abbrev Its : Type 0
Its = Result InZone LocalTimeError

pub with-one : {R : Type 0} (Of : Its → R) (Is : Its → Type 0) (r s : R) → ((a b : Its) → Is a → Is b → a ≡ b) → (its : Its) × Is its × (r ≡ Of its) → (its : Its) × Is its × (s ≡ Of its) → r ≡ s
with-one Of Is r s one (a, h, e) (b, k, f) = e ∙ ap Of (one a b h k) ∙ sym f

seen-one : {R : Type 0} (Of : Its → R) (z : Timeline) (i : ℤ) (a b : Its) (r s : R) → Stable (r ≡ s) → r ≡ Of a → s ≡ Of b → IsSeen z i a → IsSeen z i b → r ≡ s
seen-one Of z i a b r s stable e f h k =
    either (IsDateTime (reading_at z i)) stable (λ is. e ∙ ap Of (h.value is ∙ sym (k.value is)) ∙ sym f) (λ out. e ∙ ap Of (h.error out ∙ sym (k.error out)) ∙ sym f)

seen_with-one : {R : Type 0} (Of : Its → R) (z : Timeline) (i : ℤ) (r s : R) → Stable (r ≡ s) → (its : Its) × IsSeen z i its × (r ≡ Of its) → (its : Its) × IsSeen z i its × (s ≡ Of its) → r ≡ s
seen_with-one Of z i r s stable (a, h, e) (b, k, f) = seen-one Of z i a b r s stable e f h k

moved_then-one : {R : Type 0} (Of : Its → R) (p : Policy) (z : Timeline) → InOrder z → (reading exact : ℤ) (a b : Its) (r s : R) → Stable (r ≡ s) → r ≡ Of a → s ≡ Of b
    → IsMovedThen p z reading exact a → IsMovedThen p z reading exact b → r ≡ s
moved_then-one Of p z order reading exact a b r s stable e f h k = by_middle h.middle refl (resolved-one p z reading k.middle h.middle (local-one z order) k.resolved h.resolved)
  where
    by_middle : (x : Its) → h.middle ≡ x → k.middle ≡ x → r ≡ s
    by_middle (Ok m) i j = seen-one Of z _ a b r s stable e f (h.later m i) (k.later m j)
    by_middle (Err w) i j = e ∙ ap Of (h.error w i ∙ sym (k.error w j)) ∙ sym f

moved_by-one : {R : Type 0} (Of : Its → R) (p : Policy) (m : InZone) → InOrder m.zone → (months days nanoseconds : ℤ) (r s : R) → Stable (r ≡ s)
    → (its : Its) × IsMovedBy p m months days nanoseconds its × (r ≡ Of its) → (its : Its) × IsMovedBy p m months days nanoseconds its × (s ≡ Of its) → r ≡ s
moved_by-one Of p m order months days nanoseconds r s stable (a, h, e) (b, k, f) =
    either (IsExact months days) stable (λ exact. seen-one Of m.zone _ a b r s stable e f (h.exact exact) (k.exact exact))
    (λ calendar. either ((n : ℕ) × IsDate n × IsDaysLater (date_at m.moment.local) months days n) stable
    (λ some. moved_then-one Of p m.zone order _ nanoseconds a b r s stable e f (h.moved calendar some.0 some.1 some.2) (k.moved calendar some.0 some.1 some.2))
    (λ none. e ∙ ap Of (h.none calendar (λ n i j. none (n, i, j)) ∙ sym (k.none calendar (λ n i j. none (n, i, j)))) ∙ sym f))

-- ---- calls
pub at-one : (z : Timeline) (t : Duration) (r s : MomentResult) → IsZonedAt z t r → IsZonedAt z t s → r ≡ s
at-one z t r s = need-one r s _ (stable_moment r s) (seen_with-one zoned_or_error z _ r s (stable_moment r s))

pub from_local-one : (z : Timeline) → InOrder z → (date : ℤ) (time policy : ℕ) (r s : MomentResult) → IsFromLocal z date time policy r → IsFromLocal z date time policy s → r ≡ s
from_local-one z order date time policy r s =
    let stable = stable_moment r s in
    need-one r s _ stable (need-one r s _ stable (need-one r s _ stable (by_policy-one policy (λ p. IsZonedWith (IsResolved p z (date_time (day_of date) time))) r s
    (λ p. with-one zoned_or_error (IsResolved p z (date_time (day_of date) time)) r s (λ a b. resolved-one p z _ a b (local-one z order))))))

pub with_local-one : (z : Timeline) → InOrder z → (m : Moment) (date : ℤ) (time policy : ℕ) (r s : MomentResult) → IsWithLocal z m date time policy r → IsWithLocal z m date time policy s → r ≡ s
with_local-one z order m date time policy r s =
    let stable = stable_moment r s in
    need-one r s _ stable (need-one r s _ stable (need-one r s _ stable (need-one r s _ stable (need-one r s _ stable
    (by_policy-one policy (λ p. IsZonedWith (IsKept p (zoned_in z m) (date_time (day_of date) time))) r s
    (λ p. with-one zoned_or_error (IsKept p (zoned_in z m) (date_time (day_of date) time)) r s (λ a b. kept-one p (zoned_in z m) _ a b (local-one z order))))))))

pub later-one : (z : Timeline) (m : Moment) (d : Duration) (r s : MomentResult) → IsDurationLater z m d r → IsDurationLater z m d s → r ≡ s
later-one z m d r s =
    let stable = stable_moment r s in
    need-one r s _ stable (need-one r s _ stable (need-one r s _ stable (seen_with-one zoned_or_error z _ r s stable)))

pub earlier-one : (z : Timeline) (m : Moment) (d : Duration) (r s : MomentResult) → IsDurationEarlier z m d r → IsDurationEarlier z m d s → r ≡ s
earlier-one z m d r s =
    let stable = stable_moment r s in
    need-one r s _ stable (need-one r s _ stable (need-one r s _ stable (seen_with-one zoned_or_error z _ r s stable)))

pub period_later-one : (z : Timeline) → InOrder z → (m : Moment) (period : PeriodParts) (policy : ℕ) (r s : MomentResult) → IsPeriodLaterResult z m period policy r
    → IsPeriodLaterResult z m period policy s → r ≡ s
period_later-one z order m period policy r s =
    let stable = stable_moment r s in
    need-one r s _ stable (need-one r s _ stable (need-one r s _ stable (need-one r s _ stable
    (by_policy-one policy (λ p. IsZonedWith (IsPeriodLater p (zoned_in z m) (parts_in period))) r s
    (λ p. moved_by-one zoned_or_error p (zoned_in z m) order _ _ _ r s stable)))))

pub nth_later-one : (z : Timeline) → InOrder z → (m : Moment) (period : PeriodParts) (n : ℤ) (policy : ℕ) (r s : MomentResult) → IsNthPeriodResult z m period n policy r
    → IsNthPeriodResult z m period n policy s → r ≡ s
nth_later-one z order m period n policy r s =
    let stable = stable_moment r s in
    need-one r s _ stable (need-one r s _ stable (need-one r s _ stable (need-one r s _ stable
    (by_policy-one policy (λ p. IsZonedWith (IsNthPeriodLater p (zoned_in z m) (parts_in period) n)) r s
    (λ p. moved_by-one zoned_or_error p (zoned_in z m) order _ _ _ r s stable)))))

pub moved_to_date-one : (z : Timeline) → InOrder z → (m : Moment) (date : ℤ) (policy : ℕ) (r s : MomentResult) → IsMovedToDate z m date policy r → IsMovedToDate z m date policy s → r ≡ s
moved_to_date-one z order m date policy r s =
    let stable = stable_moment r s in
    need-one r s _ stable (need-one r s _ stable (need-one r s _ stable (need-one r s _ stable
    (by_policy-one policy (λ p. IsZonedWith (IsMovedTo p (zoned_in z m) (day_of date))) r s
    (λ p. with-one zoned_or_error (IsMovedTo p (zoned_in z m) (day_of date)) r s (λ a b. moved_to-one p (zoned_in z m) _ a b (local-one z order)))))))

start_result-one : {R : Type 0} (Of : Option InZone → R) (z : Timeline) (reading : ℤ) (r s : R) → (its : Option InZone) × IsStart z reading its × (r ≡ Of its)
    → (its : Option InZone) × IsStart z reading its × (s ≡ Of its) → r ≡ s
start_result-one Of z reading r s (a, h, e) (b, k, f) = e ∙ ap Of (start-one z reading a b h k) ∙ sym f

pub start-of_date-one : (z : Timeline) (date : ℤ) (r s : MomentResult) → IsStartOfDate z date r → IsStartOfDate z date s → r ≡ s
start-of_date-one z date r s = need-one r s _ (stable_moment r s) (start_result-one start_or_error z _ r s)

length-one : (z : Timeline) (n : ℕ) (c d : ℤ) → IsDayLength z n c → IsDayLength z n d → c ≡ d
length-one z n c d h k =
    let from = first_from-one z _ h.start k.start h.from k.from in
    let to = first_from-one z _ h.end k.end h.to k.to in
    let a = h.length in
    let b = k.length in
    omega (arith, ints, from, to, a, b)

pub length-of_date-one : (z : Timeline) (date : ℤ) (r s : DurationResult) → IsLengthOfDate z date r → IsLengthOfDate z date s → r ≡ s
length-of_date-one z date r s =
    let stable = stable_duration r s in
    need-one r s _ stable (λ h k. either _ stable (λ has. lengths (h.value has) (k.value has)) (λ none. h.none none ∙ sym (k.none none)))
  where
    lengths : (d : ℤ) × IsDayLength z (day_of date) d × (r ≡ duration_ok d) → (d : ℤ) × IsDayLength z (day_of date) d × (s ≡ duration_ok d) → r ≡ s
    lengths (c, h, e) (d, k, f) = e ∙ ap duration_ok (length-one z (day_of date) c d h k) ∙ sym f

start_of_unit-one : (unit : CalendarUnit) (m : InZone) (r s : MomentResult) → IsStartOfUnitResult unit m r → IsStartOfUnitResult unit m s → r ≡ s
start_of_unit-one unit m r s (a, h, e) (b, k, f) = e ∙ ap start_or_error (start_of-one unit m a b h k) ∙ sym f

end_result-one : (unit : CalendarUnit) (m : InZone) (r s : MomentResult) → IsEndResult unit m r → IsEndResult unit m s → r ≡ s
end_result-one unit m r s (IsEndResult.end v h inside e) (IsEndResult.end w k within f) = e ∙ ap (λ (x : InZone). moment_ok (end_before x).moment) (next_start-one unit m v w h k) ∙ sym f
end_result-one unit m r s (IsEndResult.end v h inside e) (IsEndResult.none out f) = absurd (out v h inside)
end_result-one unit m r s (IsEndResult.none out e) (IsEndResult.end w k within f) = absurd (out w k within)
end_result-one unit m r s (IsEndResult.none out e) (IsEndResult.none past f) = e ∙ sym f

pub start_of-one_moment : (z : Timeline) (m : Moment) (unit : ℕ) (r s : MomentResult) → IsStartOfUnit z m unit r → IsStartOfUnit z m unit s → r ≡ s
start_of-one_moment z m unit r s =
    let stable = stable_moment r s in
    need-one r s _ stable (need-one r s _ stable (need-one r s _ stable
    (by_unit-one unit (λ u. IsStartOfUnitResult u (zoned_in z m)) r s (λ u. start_of_unit-one u (zoned_in z m) r s))))

pub end_of-one : (z : Timeline) (m : Moment) (unit : ℕ) (r s : MomentResult) → IsEndOfUnit z m unit r → IsEndOfUnit z m unit s → r ≡ s
end_of-one z m unit r s =
    let stable = stable_moment r s in
    need-one r s _ stable (need-one r s _ stable (need-one r s _ stable
    (by_unit-one unit (λ u. IsEndResult u (zoned_in z m)) r s (λ u. end_result-one u (zoned_in z m) r s))))

-- ---- the period until a moment
pub stable_period : (r s : ExactPeriodResult) → Stable (r ≡ s)
stable_period r s never =
    let status = stable_z r.status s.status (of_field (λ (x : ExactPeriodResult). x.status) r s never) in
    let unused = stable_n r.unused s.unused (of_field (λ (x : ExactPeriodResult). x.unused) r s never) in
    let years = stable_z r.period.years s.period.years (of_field (λ (x : ExactPeriodResult). x.period.years) r s never) in
    let months = stable_z r.period.months s.period.months (of_field (λ (x : ExactPeriodResult). x.period.months) r s never) in
    let weeks = stable_z r.period.weeks s.period.weeks (of_field (λ (x : ExactPeriodResult). x.period.weeks) r s never) in
    let days = stable_z r.period.days s.period.days (of_field (λ (x : ExactPeriodResult). x.period.days) r s never) in
    let seconds = stable_z r.period.duration.seconds s.period.duration.seconds (of_field (λ (x : ExactPeriodResult). x.period.duration.seconds) r s never) in
    let nanoseconds = stable_z r.period.duration.nanoseconds s.period.duration.nanoseconds (of_field (λ (x : ExactPeriodResult). x.period.duration.nanoseconds) r s never) in
    let past = stable_n r.period.duration.unused s.period.duration.unused (of_field (λ (x : ExactPeriodResult). x.period.duration.unused) r s never) in
    λ i. record {
      status = status i;
      unused = unused i;
      period = record { years = years i; months = months i; weeks = weeks i; days = days i; duration = record { seconds = seconds i; nanoseconds = nanoseconds i; unused = past i } };
    }

pub period_with-one : {Has : Parts → Type 0} (r s : ExactPeriodResult) → ((p q : Parts) → Has p → Has q → p ≡ q) → IsExactPeriodWith Has r → IsExactPeriodWith Has s → r ≡ s
period_with-one r s one (p, h, e) (q, k, f) = e ∙ ap exact_period_ok (one p q h k) ∙ sym f

pub until-one : (z : Timeline) → InOrder z → (m other : Moment) (unit policy : ℕ) (r s : ExactPeriodResult) → IsUntilInZoneResult z m other unit policy r → IsUntilInZoneResult z m other unit policy s
    → r ≡ s
until-one z order m other unit policy r s =
    let stable = stable_period r s in
    need-one r s _ stable (need-one r s _ stable (need-one r s _ stable (need-one r s _ stable (need-one r s _ stable (need-one r s _ stable
    (by_unit-one unit (λ u x. (p : Policy) × (policy_number p ≡ policy) × IsExactPeriodWith (IsUntilInZone p u (zoned_in z m) (zoned_in z other)) x) r s
    (λ u. by_policy-one policy (λ p. IsExactPeriodWith (IsUntilInZone p u (zoned_in z m) (zoned_in z other))) r s
    (λ p. period_with-one r s (λ a b. until_in_zone-one p u (zoned_in z m) (zoned_in z other) a b (local-one z order))))))))))

-- ---- columns
pub later_seconds-one : (z : Timeline) → InOrder z → (seconds : ℤ) (period : Parts) (p : Policy) (r s : Int64Result) → IsLaterSeconds z seconds period p r → IsLaterSeconds z seconds period p s → r ≡ s
later_seconds-one z order seconds period p r s =
    let stable = stable_int64 r s in
    need-one r s _ stable (moved_by-one seconds_or_error p (at_instant z (instant_at seconds)) order _ _ _ r s stable)

pub start_seconds-one : (z : Timeline) (seconds : ℤ) (r s : Int64Result) → IsStartSeconds z seconds r → IsStartSeconds z seconds s → r ≡ s
start_seconds-one z seconds r s = need-one r s _ (stable_int64 r s) (start_result-one start_seconds_or_error z _ r s)

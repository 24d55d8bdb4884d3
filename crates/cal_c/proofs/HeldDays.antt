-- Days clamped to 32 bits give the same dates, and are out of range if the days are.
use Rattle.std.proofs.Common.{◌≡◌, sym, subst, arith, ℕ, ℤ, pos, neg_ℤ, ◌+ℤ◌}
use Rattle.std.specs.Int.{int_min, int_max}
use Rattle.std.specs.Prelude.{Result, Ok, Err, IfOk}
use Rattle.std.proofs.lemmas.Int.{ints, clamps, by_lt_z}
use Rattle.cal_time.specs.Date.{IsDate}
use Rattle.cal_datetime.specs.DateTime.{IsDateTime, date_at}
use Rattle.cal_datetime.specs.DateTimeLaws.{IsDate-date_at}
use Rattle.cal_schedule.specs.Months.{IsMonthsLater}
use Rattle.cal_schedule.specs.Period.{days_of, months_of, parts, IsDaysLater, Parts}
use Rattle.cal_schedule.proofs.MonthMoves.{one_later}
use Rattle.cal_schedule.proofs.Untils.{no_months}
use Rattle.cal_zone.specs.Timeline.{Timeline}
use Rattle.cal_zone.specs.declared.local_time_error.LocalTimeError.{LocalTimeError}
use Rattle.cal_zone.specs.declared.policy.Policy.{Policy}
use Rattle.cal_zoned.specs.Period.{IsExact, IsPeriodLater}
use Rattle.cal_zoned.specs.Zoned.{at_instant, reading_at, InZone}
use Rattle.cal_c.specs.Columns.{IsDateDaysLater}
use Rattle.cal_c.specs.Values.{IsJulianDay}
use Rattle.cal_c.specs.Zoned.{instant_at, seconds_or_error, IsLaterSeconds}
use Rattle.cal_c.specs.declared.results.DateResult.{DateResult}
use Rattle.cal_c.specs.declared.results.Int64Result.{Int64Result}

abbrev pub held : ℤ → ℤ
held days = int_min (int_max days (neg_ℤ (pos 2_147_483_648))) (pos 2_147_483_647)

same_if_held : (date days : ℤ) → IsJulianDay date → IsJulianDay (date +ℤ held days) → held days ≡ days
same_if_held date days is moved = omega (arith, ints, clamps, is.not_before, is.not_after, moved.not_before, moved.not_after)

same_if_moved : (date days : ℤ) → IsJulianDay date → IsJulianDay (date +ℤ days) → held days ≡ days
same_if_moved date days is moved = omega (arith, ints, clamps, is.not_before, is.not_after, moved.not_before, moved.not_after)

pub IsDateDaysLater-held : (date days : ℤ) (r : DateResult) → IsDateDaysLater date (held days) r → IsDateDaysLater date days r
IsDateDaysLater-held date days r moved = record {
  invalid_date = moved.invalid_date;
  day = λ is. record {
    result_out_of_range = λ none. (moved.day is).result_out_of_range (λ h. none (subst (λ d. IsJulianDay (date +ℤ d)) (same_if_held date days is h) h));
    day = λ h. let same = same_if_moved date days is h in
        subst (λ d. r ≡ record { status = pos 0; date = date +ℤ d }) same ((moved.day is).day (subst (λ d. IsJulianDay (date +ℤ d)) (sym same) h));
  };
}

-- ---- in a zone
abbrev pub days_alone : ℤ → Parts
days_alone days = parts (pos 0) (pos 0) (pos 0) days (pos 0)

abbrev DaysLater : ℕ → ℤ → ℕ → Type 0
DaysLater k days n = IsDaysLater k (months_of (days_alone days)) (days_of (days_alone days)) n

never_fits : (k n : ℕ) (days : ℤ) → IsDate k → IsDate n → DaysLater k days n → held days ≡ days
never_fits k n days from to h =
    let same = one_later k h.middle k (pos 0) (subst (λ (m : ℤ). IsMonthsLater k m h.middle) (omega (arith, ints)) h.months_later) (no_months k) in
    let later = h.days_later in
    omega (arith, ints, clamps, same, later, from, to)

never_held : (k n : ℕ) (days : ℤ) → IsDate k → IsDate n → DaysLater k (held days) n → held days ≡ days
never_held k n days from to h =
    let same = one_later k h.middle k (pos 0) (subst (λ (m : ℤ). IsMonthsLater k m h.middle) (omega (arith, ints)) h.months_later) (no_months k) in
    let later = h.days_later in
    omega (arith, ints, clamps, same, later, from, to)

no_value : {A : Type 0} (B : Type 0) (r : Result InZone LocalTimeError) → (A → ⊥) → IfOk r (λ _. A) → IfOk r (λ _. B)
no_value B (Ok m) never h = absurd (never h)
no_value B (Err e) never h = tt

equal_or_not : (x y : ℤ) (A : Type 0) → (x ≡ y → A) → ((x ≡ y → ⊥) → A) → A
equal_or_not x y A same other = by_lt_z x y (λ less. other (λ e. absurd (omega (arith, ints, e, less)))) (λ most. by_lt_z y x (λ more. other (λ e. absurd (omega (arith, ints, e, more)))) (λ least. same (omega (arith, ints))))

IsPeriodLater-held : (p : Policy) (m : InZone) (days : ℤ) (r : Result InZone LocalTimeError) → IsDate (date_at m.moment.local) → (held days ≡ days → ⊥) → IsPeriodLater p m (days_alone (held days)) r
    → IsPeriodLater p m (days_alone days) r
IsPeriodLater-held p m days r from other h =
    let some : ¬ IsExact (months_of (days_alone (held days))) (days_of (days_alone (held days))) = λ e. let zero = e.1 in other (omega (arith, ints, clamps, zero)) in
    let none = λ (n : ℕ) (to : IsDate n) (later : DaysLater (date_at m.moment.local) (held days) n). other (never_held (date_at m.moment.local) n days from to later) in
    record {
      exact = λ e. let zero = e.1 in absurd (other (omega (arith, ints, clamps, zero)));
      moved = λ _ n to later. absurd (other (never_fits (date_at m.moment.local) n days from to later));
      none = λ _ _. h.none some none;
      is = λ _. no_value _ r (λ is. none is.0 is.1 is.2) (h.is some);
    }

pub IsLaterSeconds-held : (z : Timeline) (seconds days : ℤ) (p : Policy) (r : Int64Result) → IsLaterSeconds z seconds (days_alone (held days)) p r → IsLaterSeconds z seconds (days_alone days) p r
IsLaterSeconds-held z seconds days p r h = record { error = h.error; value = λ is. by_value is (h.value is) }
  where
    by_value : (is : IsDateTime (reading_at z (instant_at seconds)))
        → (its : Result InZone LocalTimeError) × IsPeriodLater p (at_instant z (instant_at seconds)) (days_alone (held days)) its × (r ≡ seconds_or_error its)
        → (its : Result InZone LocalTimeError) × IsPeriodLater p (at_instant z (instant_at seconds)) (days_alone days) its × (r ≡ seconds_or_error its)
    by_value is (its, later, e) = equal_or_not (held days) days _
        (λ same. (its, subst (λ (d : ℤ). IsPeriodLater p (at_instant z (instant_at seconds)) (days_alone d) its) same later, e))
        (λ other. (its, IsPeriodLater-held p (at_instant z (instant_at seconds)) days its (IsDate-date_at _ is) other later, e))

-- A period and an exact duration have one value or one error.
use Rattle.std.proofs.Common.{◌≡◌, ℕ, ◌+◌, ◌*◌, ◌≤◌, Bool, true, false, ℤ, pos, ◌≤ℤ◌, to_z, of_z, inl, inr, refl, subst, sym, ◌∙◌, arith}
use Rattle.std.specs.Prelude.{FitsSigned}
use Rattle.std.specs.Int.{w32}
use Rattle.std.proofs.lemmas.Int.{ints, to_z-of_z}
use Rattle.cal_time.specs.SignedDuration.{IsDuration, hour, minute}
use Rattle.cal_schedule.specs.Period.{parts, IsOneSign}
use Rattle.cal_duration.specs.declared.error.DurationComponent.{DurationComponent}
use Rattle.cal_duration.specs.declared.error.DurationComponent.TheVariants.{Years, Months, Weeks, Days, Hours, Minutes, Seconds}
use Rattle.cal_duration.specs.declared.numbers.Numbers.{Numbers}
use Rattle.cal_duration.specs.Form.{HasPeriodForm, HasDurationForm}
use Rattle.cal_duration.specs.Values.{signed, nanoseconds_in, exact_of, period_of, Fits, IsDurationOf, IsPeriodOf, IsDurationError, IsPeriodError, First, Never}
use Rattle.cal_duration.proofs.Parsed.{HasOne, first_one, first_none}
use Rattle.cal_duration.proofs.Shapes.{period_shape, duration_shape}

-- fewer nanoseconds are in range too
fewer : (is_negative : Bool) (a b : ℕ) → a ≤ b → IsDuration (signed is_negative b) → IsDuration (signed is_negative a)
fewer true a b less h = record { at_least = omega (arith, ints, h.at_least); at_most = omega (arith, ints) }
fewer false a b less h = record { at_least = omega (arith, ints); at_most = omega (arith, ints, h.at_most) }

abbrev seconds_error : Numbers → DurationComponent → Type 0
seconds_error m = First Seconds (IsDuration (exact_of m)) Never

abbrev minutes_error : Numbers → DurationComponent → Type 0
minutes_error m = First Minutes (IsDuration (signed m.is_negative (m.time.hours * hour + m.time.minutes * minute))) (seconds_error m)

duration_error : (m : Numbers) (a b : DurationComponent) → IsDurationError m a → IsDurationError m b → a ≡ b
duration_error m = first_one Hours _ (minutes_error m) (first_one Minutes _ (seconds_error m) (first_one Seconds _ Never (λ a b x y. absurd x)))

no_duration_error : (m : Numbers) (why : DurationComponent) → IsDuration (exact_of m) → IsDurationError m why → ⊥
no_duration_error m why range =
    first_none Hours _ (minutes_error m) why (fewer m.is_negative (m.time.hours * hour) _ (omega arith) range)
    (first_none Minutes _ (seconds_error m) why (fewer m.is_negative (m.time.hours * hour + m.time.minutes * minute) _ (omega arith) range)
    (first_none Seconds _ Never why range (λ h. h)))

pub one_duration : HasOne HasDurationForm IsDurationOf IsDurationError
one_duration = record {
  form = duration_shape.one;
  value = λ m v w a b. a.1 ∙ sym b.1;
  error = duration_error;
  either = λ m v why is error. no_duration_error m why is.0 error;
}

abbrev days_error : Numbers → DurationComponent → Type 0
days_error m = First Days (Fits m m.date.days) (IsDurationError m)

abbrev weeks_error : Numbers → DurationComponent → Type 0
weeks_error m = First Weeks (Fits m m.date.weeks) (days_error m)

abbrev months_error : Numbers → DurationComponent → Type 0
months_error m = First Months (Fits m m.date.months) (weeks_error m)

pub one_period : HasOne HasPeriodForm IsPeriodOf IsPeriodError
one_period = record {
  form = period_shape.one;
  value = λ m v w a b. a.value ∙ sym b.value;
  error = λ m. first_one Years _ (months_error m) (first_one Months _ (weeks_error m) (first_one Weeks _ (days_error m) (first_one Days _ (IsDurationError m) (duration_error m))));
  either = λ m p why is.
      first_none Years _ (months_error m) why is.years
      (first_none Months _ (weeks_error m) why is.months (first_none Weeks _ (days_error m) why is.weeks (first_none Days _ (IsDurationError m) why is.days (no_duration_error m why is.exact))));
}

-- ---- numbers with one sign
rises : (n : ℕ) → pos 0 ≤ℤ signed false n
rises n = omega (arith, ints)

falls : (n : ℕ) → signed true n ≤ℤ pos 0
falls n = omega (arith, ints)

pub one_sign : (m : Numbers) → IsOneSign (period_of m)
one_sign m = at m.is_negative refl
  where
    at : (b : Bool) → m.is_negative ≡ b → IsOneSign (period_of m)
    at true e =
        let s : (n : ℕ) → signed m.is_negative n ≤ℤ pos 0 = λ n. subst (λ b. signed b n ≤ℤ pos 0) (sym e) (falls n) in
        inr (s m.date.years, s m.date.months, s m.date.weeks, s m.date.days, s (nanoseconds_in m.time))
    at false e =
        let s : (n : ℕ) → pos 0 ≤ℤ signed m.is_negative n = λ n. subst (λ b. pos 0 ≤ℤ signed b n) (sym e) (rises n) in
        inl (s m.date.years, s m.date.months, s m.date.weeks, s m.date.days, s (nanoseconds_in m.time))

-- A number passed on as an i32 is the same number.
passed : (m : Numbers) (n : ℕ) (v : ℤ) → Fits m n × (v ≡ signed m.is_negative n) → signed m.is_negative n ≡ to_z w32 (of_z w32 v)
passed m n v h = sym (to_z-of_z w32 v (subst (FitsSigned w32) (sym h.1) h.0) ∙ h.1)

pub keeps_sign : (m : Numbers) (y mo w d v : ℤ) → Fits m m.date.years × (y ≡ signed m.is_negative m.date.years) → Fits m m.date.months × (mo ≡ signed m.is_negative m.date.months)
    → Fits m m.date.weeks × (w ≡ signed m.is_negative m.date.weeks) → Fits m m.date.days × (d ≡ signed m.is_negative m.date.days) → v ≡ exact_of m
    → IsOneSign (parts (to_z w32 (of_z w32 y)) (to_z w32 (of_z w32 mo)) (to_z w32 (of_z w32 w)) (to_z w32 (of_z w32 d)) v)
keeps_sign m y mo w d v ys ms ws ds e =
    let years = passed m m.date.years y ys in
    let months = passed m m.date.months mo ms in
    let weeks = passed m m.date.weeks w ws in
    let days = passed m m.date.days d ds in
    let same : period_of m ≡ parts (to_z w32 (of_z w32 y)) (to_z w32 (of_z w32 mo)) (to_z w32 (of_z w32 w)) (to_z w32 (of_z w32 d)) v =
    λ i. parts (years i) (months i) (weeks i) (days i) (sym e i) in
    subst IsOneSign same (one_sign m)

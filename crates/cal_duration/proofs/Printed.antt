-- A text that is printed is the text of its value.
use Rattle.std.proofs.Common.{◌≡◌, ℕ, zero, suc, ◌+◌, ◌*◌, ◌/◌, ◌%◌, ◌<◌, ◌≤◌, ◌^◌, inl, inr, Bool, true, false, ◌==◌, ℤ, pos, negsuc, neg_ℤ, ◌≤ℤ◌, unsigned_abs, List, [], ◌∷◌, ◌++◌, length, refl, sym, ap, subst, ◌∙◌, arith}
use Rattle.std.specs.Prelude.{decimal, codes, FitsSigned, int_lt, if◌then◌else◌, ◌||◌}
use Rattle.std.specs.Int.{w32}
use Rattle.std.proofs.lemmas.Fmt.{decimal_is_IsNumeral, decimal_nonempty}
use Rattle.std.proofs.lemmas.Int.{ints}
use Rattle.std.proofs.lemmas.Bool.Decides.{nat_tests}
use Rattle.std.proofs.lemmas.List.{length-append}
use Rattle.cal_time.specs.Digits.{decimals}
use Rattle.cal_time.specs.SignedDuration.{IsDuration, hour, minute, second, part_text}
use Rattle.cal_time.proofs.Decimals.{decimals-few}
use Rattle.cal_schedule.specs.Period.{Parts, IsOneSign, IsNotNegative}
use Rattle.cal_text.specs.Rfc3339.{fraction_text}
use Rattle.cal_duration.proofs.Lengths.{not_below_zero}
use Rattle.cal_text.proofs.PrintedDecimals.{decimals-digits, decimals-nanoseconds}
use Rattle.cal_duration.specs.declared.numbers.TimeNumbers.{TimeNumbers}
use Rattle.cal_duration.specs.declared.numbers.Numbers.{Numbers}
use Rattle.cal_duration.specs.DurationText.{seconds_text, clock_text, time_text, duration_text, date_text, period_text, is_zero, is_negative}
use Rattle.cal_duration.specs.Form.{IsNumber, IsPart, IsFraction, AreSeconds, HasDate, HasClock, HasTime, HasTimeOrNone, no_time, no_date, sign_text, HasBody, HasPeriodForm, HasDurationForm}
use Rattle.cal_duration.specs.Values.{signed, nanoseconds_in, exact_of, period_of, IsPeriodOf, IsDurationText, IsPeriodText}

-- ---- parts
pub number_text : (n : ℕ) → n < 2 ^ 64 → IsNumber (decimal n) n
number_text n small =
    let numeral = decimal_is_IsNumeral n small in
    record { all = numeral.0.1; some = decimal_nonempty n small; value = omega (arith, numeral.1, small) }

pub part : (n letter : ℕ) → n < 2 ^ 64 → IsPart letter (part_text n (letter ∷ [])) n
part zero letter small = inl (refl, refl)
part (suc n) letter small = inr (decimal (suc n), number_text (suc n) small, some_part (suc n) (letter ∷ []) (omega arith))
  where
    some_part : (n : ℕ) (unit : List ℕ) → 0 < n → part_text n unit ≡ decimal n ++ unit
    some_part n unit some = grind (arith, nat_tests)

fraction : (n : ℕ) → n < 1000000000 → IsFraction (fraction_text n) n
fraction zero below = inl (refl, refl)
fraction (suc n) below = inr (record {
  mark = 46;
  digits = decimals (suc n);
  is_mark = inl refl;
  all = decimals-digits (suc n) below;
  some = long;
  few = few;
  value = sym (decimals-nanoseconds (suc n) below);
  bytes_are = some_fraction (suc n) (omega arith);
})
  where
    some_fraction : (n : ℕ) → 0 < n → fraction_text n ≡ 46 ∷ decimals n
    some_fraction n some = grind (arith, nat_tests)

    long : 0 < length (decimals (suc n))
    long = omega arith

    few : length (decimals (suc n)) ≤ 9
    few = decimals-few (suc n)

seconds : (v : ℕ) → v < minute → AreSeconds (seconds_text v) (v / second) (v % second)
seconds zero below = inl (refl, refl, refl)
seconds (suc v) below = inr (record {
  digits = decimal (suc v / second);
  fraction = fraction_text (suc v % second);
  is_number = number_text (suc v / second) (omega (arith, below));
  is_fraction = fraction (suc v % second) (omega arith);
  bytes_are = some_seconds (suc v) (omega arith);
})
  where
    some_seconds : (v : ℕ) → 0 < v → seconds_text v ≡ decimal (v / second) ++ (fraction_text (v % second) ++ 83 ∷ [])
    some_seconds v some = grind (arith, nat_tests)

-- ---- the numbers of a text
abbrev pub time_of : ℕ → TimeNumbers
time_of v = record { hours = v / hour; minutes = v % hour / minute; seconds = v % minute / second; nanoseconds = v % minute % second }

clock : (v : ℕ) → v < 2 ^ 64 * second → HasClock (clock_text v) (time_of v)
clock v small = record {
  hours = part_text (v / hour) (72 ∷ []);
  minutes = part_text (v % hour / minute) (77 ∷ []);
  seconds = seconds_text (v % minute);
  are_hours = part (v / hour) 72 (omega (arith, small));
  are_minutes = part (v % hour / minute) 77 (omega arith);
  are_seconds = seconds (v % minute) (omega arith);
  bytes_are = refl;
}

whole : (v : ℕ) → nanoseconds_in (time_of v) ≡ v
whole v = omega arith

-- ---- texts are not empty
none_there : (n letter : ℕ) → n < 2 ^ 64 → length (part_text n (letter ∷ [])) ≤ 0 → n ≡ 0
none_there n letter small few = elim (part n letter small) as (λ _. n ≡ 0) [
  | inl none ↦ none.1
  | inr some ↦ absurd (omega (arith, some.1.some, few, ap length some.2, length-append some.0 (letter ∷ [])))
]

no_seconds : (v : ℕ) → v < minute → length (seconds_text v) ≤ 0 → v ≡ 0
no_seconds v below few = elim (seconds v below) as (λ _. v ≡ 0) [
  | inl none ↦ omega (arith, none.1, none.2)
  | inr some ↦ absurd (omega (arith, some.is_number.some, few, ap length some.bytes_are, length-append some.digits (some.fraction ++ 83 ∷ [])))
]

no_clock : (v : ℕ) → v < 2 ^ 64 * second → length (clock_text v) ≤ 0 → v ≡ 0
no_clock v small few =
    let hours = part_text (v / hour) (72 ∷ []) in
    let minutes = part_text (v % hour / minute) (77 ∷ []) in
    let last = seconds_text (v % minute) in
    let sum : length (hours ++ (minutes ++ last)) ≡ length hours + (length minutes + length last) = length-append hours (minutes ++ last) ∙ ap (λ n. length hours + n) (length-append minutes last) in
    let h : v / hour ≡ 0 = none_there (v / hour) 72 (omega (arith, small)) (omega (arith, few, sum)) in
    let m : v % hour / minute ≡ 0 = none_there (v % hour / minute) 77 (omega arith) (omega (arith, few, sum)) in
    let s : v % minute ≡ 0 = no_seconds (v % minute) (omega arith) (omega (arith, few, sum)) in
    omega (arith, h, m, s)

long_clock : (v : ℕ) → v < 2 ^ 64 * second → 0 < v → HasTime (clock_text v) (time_of v)
long_clock v small some = (clock v small, at (length (clock_text v)) refl)
  where
    at : (n : ℕ) → length (clock_text v) ≡ n → 0 < length (clock_text v)
    at zero e = absurd (omega (arith, no_clock v small (omega (arith, e)), some))
    at (suc n) e = omega (arith, e)

zero_time : HasTime (codes "0S") no_time
zero_time = (
  record {
    hours = [];
    minutes = [];
    seconds = codes "0S";
    are_hours = inl (refl, refl);
    are_minutes = inl (refl, refl);
    are_seconds = inr (record { digits = codes "0"; fraction = []; is_number = record { all = (omega arith, tt); some = omega arith; value = refl }; is_fraction = inl (refl, refl); bytes_are = refl });
    bytes_are = refl;
  },
  omega arith,
)

-- ---- signs
own_sign : (v : ℤ) → signed (int_lt v (pos 0)) (unsigned_abs v) ≡ v
own_sign (pos n) = ap (λ b. signed b n) (not_below_zero n)
own_sign (negsuc n) = refl

-- ---- exact durations
duration_numbers : ℤ → Numbers
duration_numbers v = record { is_negative = int_lt v (pos 0); date = no_date; time = time_of (unsigned_abs v) }

magnitude : (v : ℤ) → IsDuration v → unsigned_abs v < 2 ^ 64 * second
magnitude (pos n) h = omega (arith, ints, h.at_most)
magnitude (negsuc n) h = omega (arith, ints, h.at_least)

pub printed_duration : (v : ℤ) → IsDuration v → IsDurationText (duration_text v) v
unfolding duration_numbers
printed_duration v range = (duration_numbers v, form (unsigned_abs v) refl, (subst IsDuration (sym value) range, sym value))
  where
    value : exact_of (duration_numbers v) ≡ v
    value = ap (signed (int_lt v (pos 0))) (whole (unsigned_abs v)) ∙ own_sign v

    not_zero : (k : ℕ) → unsigned_abs v ≡ suc k → duration_text v ≡ sign_text (int_lt v (pos 0)) ++ (codes "PT" ++ clock_text (unsigned_abs v))
    not_zero k e = grind (arith, nat_tests, e)

    form : (k : ℕ) → unsigned_abs v ≡ k → HasDurationForm (duration_text v) (duration_numbers v)
    form zero e =
        let zero_is : v ≡ pos 0 = omega (arith, ints, e) in
        subst (λ w. HasDurationForm (duration_text w) (duration_numbers w)) (sym zero_is) (record { exact = refl; rest = codes "0S"; has_time = zero_time; bytes_are = refl })
    form (suc k) e = record {
      exact = refl;
      rest = clock_text (unsigned_abs v);
      has_time = long_clock (unsigned_abs v) (magnitude v range) (omega (arith, e));
      bytes_are = not_zero k e;
    }

-- ---- periods
period_numbers : Parts → Numbers
period_numbers p = record {
  is_negative = is_negative p;
  date = record { years = unsigned_abs p.years; months = unsigned_abs p.months; weeks = unsigned_abs p.weeks; days = unsigned_abs p.days };
  time = time_of (unsigned_abs p.exact);
}

-- The parts of a period as it is kept fit in their types.
pub record AreKept (p : Parts) : Type 0 where
  pub years : FitsSigned w32 p.years
  pub months : FitsSigned w32 p.months
  pub weeks : FitsSigned w32 p.weeks
  pub days : FitsSigned w32 p.days
  pub exact : IsDuration p.exact
  pub one_sign : IsOneSign p

-- Each part has the sign of the period.
record HaveSign (p : Parts) : Type 0 where
  years : signed (is_negative p) (unsigned_abs p.years) ≡ p.years
  months : signed (is_negative p) (unsigned_abs p.months) ≡ p.months
  weeks : signed (is_negative p) (unsigned_abs p.weeks) ≡ p.weeks
  days : signed (is_negative p) (unsigned_abs p.days) ≡ p.days
  exact : signed (is_negative p) (unsigned_abs p.exact) ≡ p.exact

up : (v : ℤ) → pos 0 ≤ℤ v → pos (unsigned_abs v) ≡ v
up v h = omega (arith, ints, h)

down : (v : ℤ) → v ≤ℤ pos 0 → neg_ℤ (pos (unsigned_abs v)) ≡ v
down v h = omega (arith, ints, h)

not_below : (v : ℤ) → int_lt v (pos 0) ≡ false → pos 0 ≤ℤ v
not_below (pos n) e = omega (arith, ints)
not_below (negsuc n) e = absurd (cc)

both_false : (a b : Bool) → (a || b) ≡ false → (a ≡ false) × (b ≡ false)
both_false true b e = absurd (cc)
both_false false b e = (refl, e)

not_negative : (p : Parts) → is_negative p ≡ false → IsNotNegative p
not_negative p e =
    let a = both_false (int_lt p.years (pos 0)) _ e in
    let b = both_false (int_lt p.months (pos 0)) _ a.1 in
    let c = both_false (int_lt p.weeks (pos 0)) _ b.1 in
    let d = both_false (int_lt p.days (pos 0)) _ c.1 in
    (not_below p.years a.0, not_below p.months b.0, not_below p.weeks c.0, not_below p.days d.0, not_below p.exact d.1)

never_below : (v : ℤ) → pos 0 ≤ℤ v → int_lt v (pos 0) ≡ false
never_below (pos n) h = not_below_zero n
never_below (negsuc n) h = absurd (omega (arith, ints, h))

is_not_negative : (p : Parts) → IsNotNegative p → is_negative p ≡ false
is_not_negative p h =
    let tests : (a b c d e : Bool) → a ≡ false → b ≡ false → c ≡ false → d ≡ false → e ≡ false → (a || (b || (c || (d || e)))) ≡ false =
    λ a b c d e x y z u v. cc in
    tests _ _ _ _ _ (never_below p.years h.0) (never_below p.months h.1) (never_below p.weeks h.2) (never_below p.days h.3) (never_below p.exact h.4)

signs : (p : Parts) → IsOneSign p → HaveSign p
signs p one = at (is_negative p) refl
  where
    at : (b : Bool) → is_negative p ≡ b → HaveSign p
    at false e =
        let h = not_negative p e in
        let s : (v : ℤ) → pos 0 ≤ℤ v → signed (is_negative p) (unsigned_abs v) ≡ v = λ v k. ap (λ b. signed b (unsigned_abs v)) e ∙ up v k in
        record { years = s p.years h.0; months = s p.months h.1; weeks = s p.weeks h.2; days = s p.days h.3; exact = s p.exact h.4 }
    at true e = elim one as (λ _. HaveSign p) [
      | inl rises ↦ let never = is_not_negative p rises in absurd (cc)
      | inr h ↦
          let s : (v : ℤ) → v ≤ℤ pos 0 → signed (is_negative p) (unsigned_abs v) ≡ v = λ v k. ap (λ b. signed b (unsigned_abs v)) e ∙ down v k in
          record { years = s p.years h.0; months = s p.months h.1; weeks = s p.weeks h.2; days = s p.days h.3; exact = s p.exact h.4 }
    ]

small_part : (v : ℤ) → FitsSigned w32 v → unsigned_abs v < 2 ^ 64
small_part v h = grind (arith, ints, h.sfits)

printed_date : (p : Parts) → AreKept p → HasDate (date_text p) (period_numbers p).date
unfolding period_numbers
printed_date p kept = record {
  years = part_text (unsigned_abs p.years) (89 ∷ []);
  months = part_text (unsigned_abs p.months) (77 ∷ []);
  weeks = part_text (unsigned_abs p.weeks) (87 ∷ []);
  days = part_text (unsigned_abs p.days) (68 ∷ []);
  are_years = part (unsigned_abs p.years) 89 (small_part p.years kept.years);
  are_months = part (unsigned_abs p.months) 77 (small_part p.months kept.months);
  are_weeks = part (unsigned_abs p.weeks) 87 (small_part p.weeks kept.weeks);
  are_days = part (unsigned_abs p.days) 68 (small_part p.days kept.days);
  bytes_are = refl;
}

some_time : (v : ℕ) → 0 < v → time_text v ≡ 84 ∷ clock_text v
some_time v some = grind (arith, nat_tests)

printed_time : (v : ℕ) → v < 2 ^ 64 * second → HasTimeOrNone (time_text v) (time_of v)
printed_time zero small = inl (refl, refl)
printed_time (suc v) small = inr (clock_text (suc v), long_clock (suc v) small (omega arith), some_time (suc v) (omega arith))

no_time_text : (v : ℕ) → length (time_text v) ≤ 0 → v ≡ 0
no_time_text zero few = refl
no_time_text (suc v) few = absurd (omega (arith, few, ap length (some_time (suc v) (omega arith))))

no_text : (p : Parts) → AreKept p → length (date_text p ++ time_text (unsigned_abs p.exact)) ≤ 0 → is_zero p ≡ true
no_text p kept few =
    let a = part_text (unsigned_abs p.years) (89 ∷ []) in
    let b = part_text (unsigned_abs p.months) (77 ∷ []) in
    let c = part_text (unsigned_abs p.weeks) (87 ∷ []) in
    let d = part_text (unsigned_abs p.days) (68 ∷ []) in
    let e = time_text (unsigned_abs p.exact) in
    let sum : length (date_text p ++ e) ≡ length a + (length b + (length c + length d)) + length e =
    length-append (date_text p) e ∙ ap (λ n. n + length e) (length-append a (b ++ (c ++ d)) ∙ ap (λ n. length a + n) (length-append b (c ++ d) ∙ ap (λ n. length b + n) (length-append c d))) in
    let y = none_there (unsigned_abs p.years) 89 (small_part p.years kept.years) (omega (arith, few, sum)) in
    let m = none_there (unsigned_abs p.months) 77 (small_part p.months kept.months) (omega (arith, few, sum)) in
    let w = none_there (unsigned_abs p.weeks) 87 (small_part p.weeks kept.weeks) (omega (arith, few, sum)) in
    let x = none_there (unsigned_abs p.days) 68 (small_part p.days kept.days) (omega (arith, few, sum)) in
    let t = no_time_text (unsigned_abs p.exact) (omega (arith, few, sum)) in
    let none : unsigned_abs p.years + unsigned_abs p.months + unsigned_abs p.weeks + unsigned_abs p.days + unsigned_abs p.exact ≡ 0 = omega (arith, y, m, w, x, t) in
    ap (λ n. n == 0) none

all_zero : (p : Parts) → is_zero p ≡ true → period_numbers p ≡ record { is_negative = is_negative p; date = no_date; time = no_time }
unfolding period_numbers
all_zero p e =
    let sum : unsigned_abs p.years + unsigned_abs p.months + unsigned_abs p.weeks + unsigned_abs p.days + unsigned_abs p.exact ≡ 0 = grind (arith, nat_tests, e) in
    let years : unsigned_abs p.years ≡ 0 = omega (arith, sum) in
    let months : unsigned_abs p.months ≡ 0 = omega (arith, sum) in
    let weeks : unsigned_abs p.weeks ≡ 0 = omega (arith, sum) in
    let days : unsigned_abs p.days ≡ 0 = omega (arith, sum) in
    let exact : unsigned_abs p.exact ≡ 0 = omega (arith, sum) in
    λ i. record {
      is_negative = is_negative p;
      date = record { years = years i; months = months i; weeks = weeks i; days = days i };
      time = time_of (exact i);
    }

no_dates : HasDate [] no_date
no_dates = record { years = []; months = []; weeks = []; days = []; are_years = inl (refl, refl); are_months = inl (refl, refl); are_weeks = inl (refl, refl); are_days = inl (refl, refl); bytes_are = refl }

zero_body : HasBody (codes "T0S") no_date no_time
zero_body = record { date = []; time = codes "T0S"; has_date = no_dates; has_time = inr (codes "0S", zero_time, refl); some = omega arith; bytes_are = refl }

zero_sign : (p : Parts) → is_zero p ≡ true → is_negative p ≡ false
zero_sign p e =
    let sum : unsigned_abs p.years + unsigned_abs p.months + unsigned_abs p.weeks + unsigned_abs p.days + unsigned_abs p.exact ≡ 0 = grind (arith, nat_tests, e) in
    is_not_negative p (omega (arith, ints, sum), omega (arith, ints, sum), omega (arith, ints, sum), omega (arith, ints, sum), omega (arith, ints, sum))

period_value : (p : Parts) → HaveSign p → period_of (period_numbers p) ≡ p
unfolding period_numbers
period_value p s =
    let exact : exact_of (period_numbers p) ≡ p.exact = ap (signed (is_negative p)) (whole (unsigned_abs p.exact)) ∙ s.exact in
    λ i. record { years = s.years i; months = s.months i; weeks = s.weeks i; days = s.days i; exact = exact i }

pub printed_period : (p : Parts) → AreKept p → IsPeriodText (period_text p) p
unfolding period_numbers
printed_period p kept = (period_numbers p, at (is_zero p) refl, is)
  where
    s : HaveSign p
    s = signs p kept.one_sign

    is : IsPeriodOf (period_numbers p) p
    is = record {
      years = subst (FitsSigned w32) (sym s.years) kept.years;
      months = subst (FitsSigned w32) (sym s.months) kept.months;
      weeks = subst (FitsSigned w32) (sym s.weeks) kept.weeks;
      days = subst (FitsSigned w32) (sym s.days) kept.days;
      exact = subst IsDuration (sym (ap (signed (is_negative p)) (whole (unsigned_abs p.exact)) ∙ s.exact)) kept.exact;
      value = sym (period_value p s);
    }

    some_text : (n : ℕ) → length (date_text p ++ time_text (unsigned_abs p.exact)) ≡ n → is_zero p ≡ false → 0 < length (date_text p ++ time_text (unsigned_abs p.exact))
    some_text zero e f = let other = no_text p kept (omega (arith, e)) in absurd (cc)
    some_text (suc n) e f = omega (arith, e)

    at : (b : Bool) → is_zero p ≡ b → HasPeriodForm (period_text p) (period_numbers p)
    at true e =
        let text : period_text p ≡ codes "PT0S" = ap (λ b. if b then codes "PT0S" else sign_text (is_negative p) ++ 80 ∷ (date_text p ++ time_text (unsigned_abs p.exact))) e in
        let zero_form : HasPeriodForm (codes "PT0S") (record { is_negative = is_negative p; date = no_date; time = no_time }) =
        record { rest = codes "T0S"; has_body = zero_body; bytes_are = ap (λ b. sign_text b ++ codes "PT0S") (sym (zero_sign p e)) } in
        subst (λ bytes. HasPeriodForm bytes (period_numbers p)) (sym text) (subst (HasPeriodForm (codes "PT0S")) (sym (all_zero p e)) zero_form)
    at false e = record {
      rest = date_text p ++ time_text (unsigned_abs p.exact);
      has_body = record {
        date = date_text p;
        time = time_text (unsigned_abs p.exact);
        has_date = printed_date p kept;
        has_time = printed_time (unsigned_abs p.exact) (magnitude p.exact kept.exact);
        some = some_text (length (date_text p ++ time_text (unsigned_abs p.exact))) refl e;
        bytes_are = refl;
      };
      bytes_are = ap (λ b. if b then codes "PT0S" else sign_text (is_negative p) ++ 80 ∷ (date_text p ++ time_text (unsigned_abs p.exact))) e;
    }

-- A period whose parts are all 0 is kept.
zero_fits : (v : ℤ) → unsigned_abs v ≡ 0 → FitsSigned w32 v
zero_fits v e = let zero_is : v ≡ pos 0 = omega (arith, ints, e) in subst (FitsSigned w32) (sym zero_is) (record { sfits = grind (arith, ints) })

pub zero_kept : (p : Parts) → is_zero p ≡ true → IsDuration p.exact → IsOneSign p → AreKept p
zero_kept p e range one =
    let sum : unsigned_abs p.years + unsigned_abs p.months + unsigned_abs p.weeks + unsigned_abs p.days + unsigned_abs p.exact ≡ 0 = grind (arith, nat_tests, e) in
    record {
      years = zero_fits p.years (omega (arith, sum));
      months = zero_fits p.months (omega (arith, sum));
      weeks = zero_fits p.weeks (omega (arith, sum));
      days = zero_fits p.days (omega (arith, sum));
      exact = range;
      one_sign = one;
    }

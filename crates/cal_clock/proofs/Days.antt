-- Numbers of nanoseconds, split into days.
use Rattle.std.proofs.Common.{◌≡◌, ℕ, zero, suc, ◌*◌, ◌/◌, ◌%◌, ◌<◌, ℤ, pos, negsuc, neg_ℤ, ◌+ℤ◌, ◌-ℤ◌, ◌*ℤ◌, ◌≤ℤ◌, ◌<ℤ◌, int_rem, FitsSigned, to_z, of_z, lit<, refl, sym, subst, ◌∙◌, arith}
use Rattle.std.specs.Int.{w64}
use borrow.Author.Differences.{up, down}
use Rattle.std.proofs.lemmas.Int.{ints, by_lt_z, quot-rem, rem_below, to_z-of_z, fits_signed_from_abs, fits_signed_mul}
use Rattle.cal_span.specs.SignedDuration.{second, day, cut, subsec_nanoseconds}
use Rattle.cal_span.specs.FieldsLaws.{times-second}
use Rattle.cal_clock.specs.Time.{IsSubdayPart, modulo_day}

-- The positive part and the negative part of a number of days in nanoseconds.
times-day : (s : ℤ) → (up (s *ℤ pos day) ≡ day * up s) × (down (s *ℤ pos day) ≡ day * down s)
times-day (pos n) = (omega (arith, ints), omega (arith, ints))
times-day (negsuc n) = (omega (arith, ints), omega (arith, ints))

-- The remainder of a negative number.
int_rem-neg : (q : ℕ) → int_rem (neg_ℤ (pos q)) (pos 86_400) ≡ neg_ℤ (pos (q % 86_400))
int_rem-neg zero = refl
int_rem-neg (suc q) = refl

-- The seconds past the whole days, with the nanoseconds past the seconds, are the nanoseconds past
-- the whole days.
pub subday_nanoseconds-is : (v : ℤ)
    → int_rem (cut v (pos second)) (pos 86_400) *ℤ pos second +ℤ subsec_nanoseconds v ≡ int_rem v (pos day)
subday_nanoseconds-is (pos n) = omega (arith, ints)
subday_nanoseconds-is (negsuc n) =
    let q = suc n / second in
    let rest = int_rem-neg q in
    let seconds = times-second (int_rem (neg_ℤ (pos q)) (pos 86_400)) in
    let whole = times-second (neg_ℤ (pos q)) in
    omega (arith, ints)

rem-sign : (v : ℤ) → (pos 0 ≤ℤ v → pos 0 ≤ℤ int_rem v (pos day)) × (v ≤ℤ pos 0 → int_rem v (pos day) ≤ℤ pos 0)
rem-sign (pos n) = (λ h. omega (arith, ints), λ h. omega (arith, ints))
rem-sign (negsuc n) = (λ h. omega (arith, ints), λ h. omega (arith, ints))

pub IsSubdayPart-rem : (v : ℤ) → IsSubdayPart v (int_rem v (pos day))
IsSubdayPart-rem v = record {
  value = sym (quot-rem v (pos day));
  below_day = rem_below v (pos day) (omega arith);
  positive = (rem-sign v).0;
  negative = (rem-sign v).1;
}

-- The steps of the computation fit in an i64.
pub record HasRest (v s n : ℤ) : Type 0 where
  pub rem_fits : FitsSigned w64 (int_rem s (pos 86_400))
  pub product_fits : FitsSigned w64 (int_rem s (pos 86_400) *ℤ pos second)
  pub rest_fits : FitsSigned w64 (int_rem s (pos 86_400) *ℤ pos second +ℤ n)
  pub past : IsSubdayPart v (int_rem s (pos 86_400) *ℤ pos second +ℤ n)

pub rest-of : (v s n : ℤ) → s ≡ cut v (pos second) → n ≡ subsec_nanoseconds v → HasRest v s n
rest-of v s n whole past =
    let small = rem_below s (pos 86_400) (omega arith) in
    let rest : int_rem s (pos 86_400) *ℤ pos second +ℤ n ≡ int_rem v (pos day) = (λ i. int_rem (whole i) (pos 86_400) *ℤ pos second +ℤ past i) ∙ subday_nanoseconds-is v in
    let is_past : IsSubdayPart v (int_rem s (pos 86_400) *ℤ pos second +ℤ n) = subst (IsSubdayPart v) (sym rest) (IsSubdayPart-rem v) in
    let below = is_past.below_day in
    record {
      rem_fits = fits_signed_from_abs w64 (int_rem s (pos 86_400)) (omega arith);
      product_fits = fits_signed_mul w64 (int_rem s (pos 86_400)) (pos second) 86_400 second (omega arith) (omega arith) (lit< tt);
      rest_fits = fits_signed_from_abs w64 (int_rem s (pos 86_400) *ℤ pos second +ℤ n) (omega arith);
      past = is_past;
    }

-- A number that goes through 64 bits and back.
abbrev pub kept : ℤ → ℤ
kept z = to_z w64 (of_z w64 z)

pub computed-rest : (v s n : ℤ) → FitsSigned w64 s → FitsSigned w64 n → HasRest v s n
    → kept (kept (kept (int_rem (kept s) (pos 86_400)) *ℤ pos second) +ℤ kept n) ≡ int_rem s (pos 86_400) *ℤ pos second +ℤ n
computed-rest v s n fits_s fits_n h =
    let rem = h.rem_fits in
    let product = h.product_fits in
    let rest = h.rest_fits in
    simp to_z-of_z

-- d is -1, 0 or 1, and n without d days is in a day.
pub record IsInDay (n d : ℤ) : Type 0 where
  pub low : negsuc 0 ≤ℤ d
  pub high : d ≤ℤ pos 1
  pub from : pos 0 ≤ℤ (n -ℤ d *ℤ pos day)
  pub below : (n -ℤ d *ℤ pos day) <ℤ pos day

pub IsInDay-counted : (n d : ℤ) → neg_ℤ (pos day) <ℤ n → n <ℤ pos (2 * day)
    → (n <ℤ pos 0 → d ≡ negsuc 0) → (pos 0 ≤ℤ n → n <ℤ pos day → d ≡ pos 0) → (pos day ≤ℤ n → d ≡ pos 1) → IsInDay n d
IsInDay-counted n d low high before same after =
    by_lt_z n (pos 0)
    (λ past. let is = before past in record { low = omega (arith, ints); high = omega (arith, ints); from = omega (arith, ints); below = omega (arith, ints) })
    (λ from. by_lt_z n (pos day)
    (λ below. let is = same from below in record { low = omega (arith, ints); high = omega (arith, ints); from = omega (arith, ints); below = omega (arith, ints) })
    (λ over. let is = after over in record { low = omega (arith, ints); high = omega (arith, ints); from = omega (arith, ints); below = omega (arith, ints) }))

-- A step back within a day, and then whole days back.
pub moved-back : (t v w r c u : ℤ) → v ≡ w *ℤ pos day +ℤ r → t -ℤ r ≡ c *ℤ pos day +ℤ u
    → t -ℤ v ≡ (c -ℤ w) *ℤ pos day +ℤ u
moved-back t v w r c u p q =
    let x = times-day w in
    let y = times-day c in
    let z = times-day (c -ℤ w) in
    omega (arith, ints)

-- A number modulo a day is u if the number is u more than some whole days and u is less than a day.
pub modulo_day-is : (v k : ℤ) (u : ℕ) → v ≡ k *ℤ pos day +ℤ pos u → u < day → modulo_day v ≡ u
modulo_day-is (pos n) (pos j) u e h = let x = times-day (pos j) in omega (arith, ints)
modulo_day-is (pos n) (negsuc j) u e h = let x = times-day (negsuc j) in absurd (omega (arith, ints))
modulo_day-is (negsuc n) (pos j) u e h = let x = times-day (pos j) in absurd (omega (arith, ints))
modulo_day-is (negsuc n) (negsuc j) u e h = let x = times-day (negsuc j) in omega (arith, ints)

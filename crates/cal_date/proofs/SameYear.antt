-- Moves by days in a u64, in which negative days become 2^64 more: within a year by the index of
-- the day, and else by its number.
use Rattle.std.proofs.Common.{◌≡◌, ◌∙◌, ℕ, ◌+◌, ◌-◌, ◌%◌, ◌<◌, ◌≤◌, refl, sym, ap, subst, arith, ℤ, pos, neg_ℤ, ◌+ℤ◌, ◌-ℤ◌, unsigned_abs, of_z, w64, FitsSigned, Option, Some, None, SomeIff, IfSome, IsSomeAnd}
use Rattle.std.proofs.lemmas.Int.{ints}
use Rattle.cal_units.specs.Lengths.{days_in_year}
use Rattle.cal_date.specs.Date.{year_at, ordinal_at, IsOrdinal, IsDate}
use Rattle.cal_date.specs.PackedDate.{ordinal_number, HasOrdinalDate-ordinal_number}
use Rattle.cal_date.specs.Arithmetic.{IsDateNumber, IsOrdinalNumber, clamped_date}
use Rattle.cal_date.proofs.Dates.{in_range, IsDate-ordinal_number}
use Rattle.cal_date.proofs.Moves.{number-clamped_date, found_number}

-- A sum that wraps is far above the indexes of a year. Any other sum is the index of the moved
-- ordinal.
pub index-added : (w : ℤ) (o : ℕ) → FitsSigned w64 w → 1 ≤ o → o ≤ 366 → (of_z w64 w + (o - 1)) % 18446744073709551616 < 366
    → pos ((of_z w64 w + (o - 1)) % 18446744073709551616 + 1) ≡ pos o +ℤ w
index-added w o fits low high near = grind (arith, ints)

-- d is the day with the ordinal p + 1 of the year of day n. The integer z equals this ordinal, and
-- m is the number to which day n moves.
pub record IsNear (n d : ℕ) (m z : ℤ) : Type 0 where
  pub day : IsDateNumber m × (d ≡ clamped_date m)
  pub same_year : (year_at d ≡ year_at n) × (pos (ordinal_at d) ≡ z)

pub near : (n d p : ℕ) (m z : ℤ) → IsDate n → p < days_in_year (year_at n) → d ≡ ordinal_number (year_at n) (p + 1) → pos (p + 1) ≡ z → m +ℤ pos (ordinal_at n) ≡ pos n +ℤ z → IsNear n d m z
near n d p m z h within is ordinal move =
    let at = in_range n (year_at n) (ordinal_at n) h (refl, refl) in
    let here : IsOrdinal (year_at n) (p + 1) = (omega arith, omega arith) in
    let date : IsDate d = subst IsDate (sym is) (IsDate-ordinal_number (year_at n) (p + 1) at.year here) in
    let has = HasOrdinalDate-ordinal_number (year_at n) (p + 1) at.year here in
    let number : m ≡ pos d = omega (arith, ints, at.number_is, at.ordinal.0) in
    record {
      day = number-clamped_date d m date number;
      same_year = (ap year_at is ∙ has.0, ap pos (ap ordinal_at is ∙ has.1) ∙ ordinal);
    }

-- The same for the numbers of days.
pub number-added : (w : ℤ) (n : ℕ) → FitsSigned w64 w → IsDate n → IsDate ((of_z w64 w + n) % 18446744073709551616)
    → pos ((of_z w64 w + n) % 18446744073709551616) ≡ pos n +ℤ w
number-added w n fits h near = grind (arith, ints)

pub number-added-in_range : (w : ℤ) (n : ℕ) → FitsSigned w64 w → IsDate n → IsDateNumber (pos n +ℤ w) → IsDate ((of_z w64 w + n) % 18446744073709551616)
number-added-in_range w n fits h is = let first = is.not_before in let last = is.not_after in grind (arith, ints)

-- A day that is found by its number is the moved day.
pub moved_by_number : (n k : ℕ) (w : ℤ) (r : Option ℕ) → FitsSigned w64 w → IsDate n → k ≡ (of_z w64 w + n) % 18446744073709551616 → SomeIff r (IsDate k) k
    → SomeIff r (IsDateNumber (pos n +ℤ w)) (clamped_date (pos n +ℤ w))
moved_by_number n k w None fits h e none = λ is. none (subst IsDate (sym e) (number-added-in_range w n fits h is))
moved_by_number n k w (Some d) fits h e some =
    let number = number-added w n fits h (subst IsDate e some.0) in
    number-clamped_date d (pos n +ℤ w) (subst IsDate (sym some.1) some.0) (sym number ∙ ap pos (sym e) ∙ ap pos (sym some.1))

found_in_year : (n : ℕ) (w : ℤ) (r : Option ℕ) (d : ℕ) → IsNear n d (pos n +ℤ w) (pos (ordinal_at n) +ℤ w) → SomeIff r (IsDateNumber (pos n +ℤ w)) (clamped_date (pos n +ℤ w))
    → IsSomeAnd r (λ d. (year_at d ≡ year_at n) × (pos (ordinal_at d) ≡ pos (ordinal_at n) +ℤ w))
found_in_year n w None d here none = absurd (none here.day.0)
found_in_year n w (Some x) d here some =
    let same : x ≡ d = some.1 ∙ sym here.day.1 in
    (ap year_at same ∙ here.same_year.0, ap pos (ap ordinal_at same) ∙ here.same_year.1)

-- If the year has the moved ordinal, the moved day has it too.
pub moved_in_year : (n : ℕ) (w : ℤ) (r : Option ℕ) → IsDate n → SomeIff r (IsDateNumber (pos n +ℤ w)) (clamped_date (pos n +ℤ w))
    → IsOrdinalNumber (year_at n) (pos (ordinal_at n) +ℤ w) → IsSomeAnd r (λ d. (year_at d ≡ year_at n) × (pos (ordinal_at d) ≡ pos (ordinal_at n) +ℤ w))
moved_in_year n w r h moves is =
    let z = pos (ordinal_at n) +ℤ w in
    let p = unsigned_abs z - 1 in
    let low = is.not_before in
    let high = is.not_after in
    let to : pos (p + 1) ≡ z = omega (arith, ints) in
    let here = near n (ordinal_number (year_at n) (p + 1)) p (pos n +ℤ w) z h (omega (arith, ints)) refl to (omega (arith, ints)) in
    found_in_year n w r (ordinal_number (year_at n) (p + 1)) here moves

-- The same for days that are subtracted.
pub moved_back_in_year : (n : ℕ) (w v : ℤ) (r : Option ℕ) → IsDate n → v ≡ neg_ℤ w → SomeIff r (IsDateNumber (pos n +ℤ v)) (clamped_date (pos n +ℤ v))
    → IsOrdinalNumber (year_at n) (pos (ordinal_at n) -ℤ w) → IsSomeAnd r (λ d. (year_at d ≡ year_at n) × (pos (ordinal_at d) ≡ pos (ordinal_at n) -ℤ w))
moved_back_in_year n w v r h e moves =
    let same : pos (ordinal_at n) +ℤ v ≡ pos (ordinal_at n) -ℤ w = ap (λ z. pos (ordinal_at n) +ℤ z) e ∙ omega (arith, ints) in
    subst (λ z. IsOrdinalNumber (year_at n) z → IsSomeAnd r (λ d. (year_at d ≡ year_at n) × (pos (ordinal_at d) ≡ z))) same (moved_in_year n v r h moves)

pub found_back : (n : ℕ) (w v : ℤ) (r : Option ℕ) → v ≡ neg_ℤ w → SomeIff r (IsDateNumber (pos n +ℤ v)) (clamped_date (pos n +ℤ v)) → IfSome r (λ d. pos d ≡ pos n -ℤ w)
found_back n w v r e moves =
    let same : pos n +ℤ v ≡ pos n -ℤ w = ap (λ z. pos n +ℤ z) e ∙ omega (arith, ints) in
    subst (λ z. IfSome r (λ d. pos d ≡ z)) same (found_number (pos n +ℤ v) r moves)

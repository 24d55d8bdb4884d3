-- The parts of the packed value of an ordinal date.
use Rattle.std.proofs.Common.{◌≡◌, inl, inr, refl, Bool, ℕ, ◌*◌, ◌+◌, ◌-◌, ◌%◌, ◌≤◌, ◌∙◌, sym, ap, subst, arith, rules, ℤ, pos, neg_ℤ, ◌/◌, ◌+ℤ◌, ◌-ℤ◌, ◌*ℤ◌, ◌≤ℤ◌, unsigned_abs, to_z, of_z, w32, Fits, FitsSigned, bit_and, bit_or, ◌^◌, ◌<◌}
use Rattle.std.proofs.lemmas.Int.{ints, to_z-of_z}
use Rattle.std.proofs.lemmas.Bool.Decides.{nat_tests}
use Rattle.std.proofs.lemmas.Bool.{cases_Bool}
use Rattle.std.proofs.lemmas.Nat.{and_mask, or_shifted}
use lib.Dec.{T}
use lib.Signed.{shr_z, non_neg}
use mir.Syntax.{Width, w16}
use mir.Val.{bool_byte}
use Rattle.cal_units.specs.Lengths.{is_leap_year, days_in_year}
use Rattle.cal_date.specs.Date.{first_year, year_at, ordinal_at, IsYear, IsOrdinal, IsDate}
use Rattle.cal_date.specs.PackedDate.{packed, packing_bias, leap_mark, year_of, ordinal_of, IsPacked, IsPackedDate, IsPacked-fields, fields-IsPacked, ordinal_number, number_of, HasOrdinalDate-number_of, packed_at-number_of}
use Rattle.cal_date.specs.declared.date.Date.TheInside.{Inside}
use Rattle.cal_date.proofs.Dates.{IsDate-ordinal_number}

record IsBounded (z : ℤ) : Type 0 where
  low : neg_ℤ (pos (packing_bias * 1024)) ≤ℤ z
  high : z ≤ℤ pos (packing_bias * 1024)

bounded : (y : ℤ) (o : ℕ) → IsYear y → IsOrdinal y o → IsBounded (packed y o)
unfolding packed
bounded y o h f = record { low = grind (arith, ints, nat_tests); high = grind (arith, ints, nat_tests) }

pub packed-i32 : (y : ℤ) (o : ℕ) → IsYear y → IsOrdinal y o → FitsSigned w32 (packed y o)
packed-i32 y o h f = let b = bounded y o h f in grind (arith, ints)

-- The year and the ordinal of a packed value are the ones that were packed.
pub year_of-packed : (y : ℤ) (o : ℕ) → IsYear y → IsOrdinal y o → year_of (packed y o) ≡ y
unfolding packed year_of
year_of-packed y o h f = grind (arith, ints, nat_tests)

pub ordinal_of-packed : (y : ℤ) (o : ℕ) → IsYear y → IsOrdinal y o → ordinal_of (packed y o) ≡ o
unfolding packed ordinal_of
ordinal_of-packed y o h f = grind (arith, ints, nat_tests)

IsPacked-packed : (y : ℤ) (o : ℕ) → IsYear y → IsOrdinal y o → IsPacked (packed y o)
IsPacked-packed y o h f =
    let year = year_of-packed y o h f in
    let ordinal = ordinal_of-packed y o h f in
    record {
      year = subst IsYear (sym year) h;
      ordinal = subst (IsOrdinal (year_of (packed y o))) (sym ordinal) (subst (λ z. IsOrdinal z o) (sym year) f);
      packed_is = ap (λ z. packed z o) (sym year) ∙ ap (packed (year_of (packed y o))) (sym ordinal);
    }

pub IsPackedDate-packed : (y : ℤ) (o : ℕ) → IsYear y → IsOrdinal y o → IsPackedDate (record { packed = packed y o })
IsPackedDate-packed y o h f = fields-IsPacked (packed y o) (IsPacked-packed y o h f)

pub number_of-packed : (y : ℤ) (o : ℕ) → IsYear y → IsOrdinal y o → number_of (record { packed = packed y o }) ≡ ordinal_number y o
number_of-packed y o h f = ap (λ z. ordinal_number z (ordinal_of (packed y o))) (year_of-packed y o h f) ∙ ap (ordinal_number y) (ordinal_of-packed y o h f)

-- The fields of the date with this number.
pub record IsPackedAt (p : ℤ) (n : ℕ) : Type 0 where
  pub in_range : IsDate n
  pub year : IsYear (year_at n)
  pub ordinal : IsOrdinal (year_at n) (ordinal_at n)
  pub number_is : n ≡ ordinal_number (year_at n) (ordinal_at n)
  pub packed_is : p ≡ packed (year_at n) (ordinal_at n)

at_own_number : (d : Inside) → IsPackedDate d → IsPackedAt d.packed (number_of d)
at_own_number d h =
    let is = IsPacked-fields d h in
    let has = HasOrdinalDate-number_of d h in
    let year = sym has.0 in
    let ordinal = sym has.1 in
    record {
      in_range = IsDate-ordinal_number _ _ is.year is.ordinal;
      year = subst IsYear year is.year;
      ordinal = subst (IsOrdinal (year_at (number_of d))) ordinal (subst (λ z. IsOrdinal z (ordinal_of d.packed)) year is.ordinal);
      number_is = ap (λ z. ordinal_number z (ordinal_of d.packed)) year ∙ ap (ordinal_number (year_at (number_of d))) ordinal;
      packed_is = is.packed_is ∙ ap (λ z. packed z (ordinal_of d.packed)) year ∙ ap (packed (year_at (number_of d))) ordinal;
    }

pub at_number : (d : Inside) (n : ℕ) → IsPackedDate d → number_of d ≡ n → IsPackedAt d.packed n
at_number d n h is = subst (IsPackedAt d.packed) is (at_own_number d h)

pub packed_at-i32 : (p : ℤ) (n : ℕ) → IsPackedAt p n → to_z w32 (of_z w32 p) ≡ p
packed_at-i32 p n at = to_z-of_z w32 p (subst (FitsSigned w32) (sym at.packed_is) (packed-i32 (year_at n) (ordinal_at n) at.year at.ordinal))

-- A packed value shifted right by 10 bits is the year. Its lowest nine bits are the ordinal, and
-- its low ten bits have the leap mark too.
shifted-of : (z : ℤ) → IsBounded z → to_z w32 (of_z w32 (shr_z (to_z w32 (of_z w32 z)) 1024)) ≡ year_of z
unfolding year_of
shifted-of z h = search rules

pub shifted : (y : ℤ) (o : ℕ) → IsYear y → IsOrdinal y o → to_z w32 (of_z w32 (shr_z (to_z w32 (of_z w32 (packed y o))) 1024)) ≡ y
shifted y o h f = shifted-of (packed y o) (bounded y o h f) ∙ year_of-packed y o h f

-- The packed value counted from the packed first date.
abbrev from_first : ℤ → ℤ
from_first p = to_z w32 (of_z w32 (to_z w32 (of_z w32 p) -ℤ neg_ℤ (pos 1023998975)))

from_first-packed : (y : ℤ) (o : ℕ) → IsYear y → IsOrdinal y o → from_first (packed y o) ≡ (y -ℤ first_year) *ℤ pos 1024 +ℤ pos (leap_mark y + (o - 1))
unfolding packed
from_first-packed y o h f = grind (arith, ints, nat_tests)

low_from_first : (y : ℤ) (o : ℕ) → IsOrdinal y o → leap_mark y + (o - 1) < 1024
low_from_first y o f = grind (arith, nat_tests)

-- It has the index of the year and the index of the ordinal, as the packed value has both.
pub year_index-is : (y : ℤ) (o : ℕ) → IsYear y → IsOrdinal y o → pos (unsigned_abs (from_first (packed y o)) / 1024) ≡ y -ℤ first_year
year_index-is y o h f = omega (arith, ints, from_first-packed y o h f, low_from_first y o f, h.0)

pub ordinal_index-is : (y : ℤ) (o : ℕ) → IsYear y → IsOrdinal y o → unsigned_abs (from_first (packed y o)) % 512 + 1 ≡ o
ordinal_index-is y o h f =
    let is = from_first-packed y o h f in
    grind (arith, ints, nat_tests)

pub ordinal_index-most : (y : ℤ) (o : ℕ) → IsYear y → IsOrdinal y o → unsigned_abs (from_first (packed y o)) % 512 < 366
ordinal_index-most y o h f =
    let is = ordinal_index-is y o h f in
    grind (arith, nat_tests, f.1)

pub from_first-casts : (y : ℤ) (o : ℕ) → IsYear y → IsOrdinal y o → T (non_neg (from_first (packed y o))) × Fits w32 (unsigned_abs (from_first (packed y o)))
from_first-casts y o h f =
    let is = from_first-packed y o h f in
    let low = low_from_first y o f in
    (omega (arith, ints, h.0), omega (arith, ints, h.0, h.1))

lowest_bits-of : (z : ℤ) → IsBounded z → unsigned_abs (to_z w32 (bit_and (of_z w32 z) 511)) ≡ ordinal_of z
unfolding ordinal_of
lowest_bits-of z h =
    let mask : bit_and (of_z w32 z) 511 ≡ of_z w32 z % 512 = and_mask (of_z w32 z) 9 in
    let bits : of_z w32 z % 512 ≡ unsigned_abs (z +ℤ pos (packing_bias * 1024)) % 512 = grind (arith, ints) in
    ap (λ n. unsigned_abs (to_z w32 n)) mask ∙ omega (arith, ints)

pub lowest_bits : (y : ℤ) (o : ℕ) → IsYear y → IsOrdinal y o → unsigned_abs (to_z w32 (bit_and (of_z w32 (packed y o)) 511)) ≡ o
lowest_bits y o h f = lowest_bits-of (packed y o) (bounded y o h f) ∙ ordinal_of-packed y o h f

next-bounded : (y : ℤ) (o : ℕ) → IsYear y → IsOrdinal y o → IsBounded (packed y o +ℤ pos 1)
unfolding packed
next-bounded y o h f = record { low = grind (arith, ints, nat_tests); high = grind (arith, ints, nat_tests) }

next-ordinal_of : (y : ℤ) (o : ℕ) → IsYear y → IsOrdinal y o → ordinal_of (packed y o +ℤ pos 1) ≡ o + 1
unfolding packed ordinal_of
next-ordinal_of y o h f = grind (arith, ints, nat_tests)

-- The packed value plus 1 fits too, and its lowest nine bits are one more than the ordinal.
pub next-i32 : (y : ℤ) (o : ℕ) → IsYear y → IsOrdinal y o → FitsSigned w32 (packed y o +ℤ pos 1)
next-i32 y o h f = let b = next-bounded y o h f in grind (arith, ints)

pub next-lowest_bits : (y : ℤ) (o : ℕ) → IsYear y → IsOrdinal y o → unsigned_abs (to_z w32 (bit_and (of_z w32 (packed y o +ℤ pos 1)) 511)) ≡ o + 1
next-lowest_bits y o h f = lowest_bits-of (packed y o +ℤ pos 1) (next-bounded y o h f) ∙ next-ordinal_of y o h f

low_bits-of : (z : ℤ) → IsBounded z → unsigned_abs (to_z w32 (bit_and (of_z w32 z) 1023)) ≡ unsigned_abs (z +ℤ pos (packing_bias * 1024)) % 1024
low_bits-of z h =
    let mask : bit_and (of_z w32 z) 1023 ≡ of_z w32 z % 1024 = and_mask (of_z w32 z) 10 in
    let bits : of_z w32 z % 1024 ≡ unsigned_abs (z +ℤ pos (packing_bias * 1024)) % 1024 = grind (arith, ints) in
    ap (λ n. unsigned_abs (to_z w32 n)) mask ∙ omega (arith, ints)

low_bits-packed : (y : ℤ) (o : ℕ) → IsYear y → IsOrdinal y o → unsigned_abs (packed y o +ℤ pos (packing_bias * 1024)) % 1024 ≡ leap_mark y + o
unfolding packed
low_bits-packed y o h f = grind (arith, ints, nat_tests)

pub low_bits : (y : ℤ) (o : ℕ) → IsYear y → IsOrdinal y o → unsigned_abs (to_z w32 (bit_and (of_z w32 (packed y o)) 1023)) ≡ leap_mark y + o
low_bits y o h f = low_bits-of (packed y o) (bounded y o h f) ∙ low_bits-packed y o h f

-- The packed value rises with the ordinal.
pub packed-moved : (y : ℤ) (o p : ℕ) (days : ℤ) → pos o +ℤ days ≡ pos p → packed y o +ℤ days ≡ packed y p
unfolding packed
packed-moved y o p days e = omega (arith, ints)

pub ordinal_number-moved : (y : ℤ) (o p : ℕ) (days : ℤ) → 1 ≤ o → 1 ≤ p → pos o +ℤ days ≡ pos p → pos (ordinal_number y p) ≡ pos (ordinal_number y o) +ℤ days
ordinal_number-moved y o p days h f e = omega (arith, ints)

-- A packed value moved by days within the year.
pub record IsMoved (p days : ℤ) (n : ℕ) : Type 0 where
  pub fits : FitsSigned w32 (p +ℤ days)
  pub is_packed : IsPackedDate (record { packed = p +ℤ days })
  pub number_is : pos (number_of (record { packed = p +ℤ days })) ≡ pos n +ℤ days

pub moved : (p days : ℤ) (n : ℕ) → IsPackedAt p n → pos 1 ≤ℤ (pos (ordinal_at n) +ℤ days) → (pos (ordinal_at n) +ℤ days) ≤ℤ pos (days_in_year (year_at n)) → IsMoved p days n
moved p days n at low high =
    let y = year_at n in
    let o = unsigned_abs (pos (ordinal_at n) +ℤ days) in
    let is : pos (ordinal_at n) +ℤ days ≡ pos o = omega (arith, ints) in
    let ordinal : IsOrdinal y o = (omega (arith, ints), omega (arith, ints)) in
    let same : p +ℤ days ≡ packed y o = ap (λ z. z +ℤ days) at.packed_is ∙ packed-moved y (ordinal_at n) o days is in
    record {
      fits = subst (FitsSigned w32) (sym same) (packed-i32 y o at.year ordinal);
      is_packed = subst (λ z. IsPackedDate (record { packed = z })) (sym same) (IsPackedDate-packed y o at.year ordinal);
      number_is = ap (λ z. pos (ordinal_number (year_of z) (ordinal_of z))) same ∙ ap pos (number_of-packed y o at.year ordinal)
          ∙ ordinal_number-moved y (ordinal_at n) o days at.ordinal.0 ordinal.0 is ∙ ap (λ k. pos k +ℤ days) (sym at.number_is);
    }

-- The bits of a packed value.
leap_mark-byte : (y : ℤ) → leap_mark y ≡ 512 * bool_byte (is_leap_year y)
leap_mark-byte y = elim (cases_Bool (is_leap_year y)) [ inl leap ↦ rw leap refl | inr common ↦ rw common refl ]

pub bool_byte-most : (b : Bool) → bool_byte b ≤ 1
bool_byte-most b = elim (cases_Bool b) [ inl is ↦ rw is (omega arith) | inr is ↦ rw is (omega arith) ]

-- The year above the low ten bits, a number of 22 bits.
year_bits : (y : ℤ) → of_z w32 y * 1024 % 4294967296 ≡ (of_z w32 y % 4194304) * 2 ^ 10
year_bits y = omega arith

packed-parts : (y z : ℤ) (m k : ℕ) → IsYear y → k ≤ 366 → m ≤ 1 → z ≡ y *ℤ pos 1024 +ℤ pos (512 * m + k)
    → to_z w32 ((of_z w32 y % 4194304 * 2 + m) * 2 ^ 9 + k) ≡ z
packed-parts y z m k h short low e = grind (arith, ints)

-- Parts that share no bits, joined by `|`.
joined : (b m k : ℕ) → k ≤ 366 → m ≤ 1 → bit_or (bit_or (b * 2 ^ 10) (m * 512)) k ≡ (b * 2 + m) * 2 ^ 9 + k
joined b m k short low =
    let mark : m * 512 < 2 ^ 10 = omega arith in
    let ordinal : k < 2 ^ 9 = omega arith in
    let doubled : b * 2 ^ 10 + m * 512 ≡ (b * 2 + m) * 2 ^ 9 = omega arith in
    ap (λ n. bit_or n k) (or_shifted b 10 (m * 512) mark ∙ doubled) ∙ or_shifted (b * 2 + m) 9 k ordinal

of_pos : (z : ℤ) (n : ℕ) → z ≡ pos n → n ≤ 878 → of_z w32 z ≡ n
of_pos z n e h = ap (of_z w32) e ∙ grind (arith, ints)

pub packed-bits : (y leap o : ℤ) (k : ℕ) → IsYear y → IsOrdinal y k → leap ≡ pos (bool_byte (is_leap_year y)) → o ≡ pos k
    → to_z w32 (bit_or (bit_or (of_z w32 y * 1024 % 4294967296) (of_z w32 leap * 512 % 4294967296)) (of_z w32 o)) ≡ packed y k
unfolding packed
packed-bits y leap o k h f mark e =
    let m = bool_byte (is_leap_year y) in
    let low : m ≤ 1 = bool_byte-most (is_leap_year y) in
    let short : k ≤ 366 = grind (arith, nat_tests) in
    let is : packed y k ≡ y *ℤ pos 1024 +ℤ pos (512 * m + k) = ap (λ b. y *ℤ pos 1024 +ℤ pos (b + k)) (leap_mark-byte y) in
    let mark_bits : of_z w32 leap * 512 % 4294967296 ≡ m * 512 = omega (arith, of_pos leap m mark (omega (arith, low)), low) in
    ap (λ n. to_z w32 (bit_or (bit_or n (of_z w32 leap * 512 % 4294967296)) (of_z w32 o))) (year_bits y)
    ∙ ap (λ n. to_z w32 (bit_or (bit_or ((of_z w32 y % 4194304) * 2 ^ 10) n) (of_z w32 o))) mark_bits
    ∙ ap (λ n. to_z w32 (bit_or (bit_or ((of_z w32 y % 4194304) * 2 ^ 10) (m * 512)) n)) (of_pos o k e (omega (arith, short)))
    ∙ ap (to_z w32) (joined (of_z w32 y % 4194304) m k short low)
    ∙ packed-parts y (packed y k) m k h short low is

-- Masked bits are a small number, so a cast keeps it.
abbrev Casts : Width → ℕ → Type 0
Casts w n = T (non_neg (to_z w32 n)) × Fits w (unsigned_abs (to_z w32 n))

pub mask_9-casts : (x : ℕ) → Casts w32 (bit_and x 511)
mask_9-casts x = subst (Casts w32) (sym (and_mask x 9)) (small (x % 512) (omega arith))
  where
    small : (n : ℕ) → n < 512 → Casts w32 n
    small n below = (omega (arith, ints), omega (arith, ints))

pub mask_9-casts_16 : (x : ℕ) → Casts w16 (bit_and x 511)
mask_9-casts_16 x = subst (Casts w16) (sym (and_mask x 9)) (small (x % 512) (omega arith))
  where
    small : (n : ℕ) → n < 512 → Casts w16 n
    small n below = (omega (arith, ints), omega (arith, ints))

pub mask_10-casts : (x : ℕ) → Casts w32 (bit_and x 1023)
mask_10-casts x = subst (Casts w32) (sym (and_mask x 10)) (small (x % 1024) (omega arith))
  where
    small : (n : ℕ) → n < 1024 → Casts w32 n
    small n below = (omega (arith, ints), omega (arith, ints))

pub ruleset numbers_of_packed = (packed_at-number_of, ints, nat_tests)

pub packed-low_bits : (y z : ℤ) (low k : ℕ) → IsYear y → IsOrdinal y k → low ≡ leap_mark y + k → z ≡ pos low
    → to_z w32 (bit_or (of_z w32 y * 1024 % 4294967296) (of_z w32 z)) ≡ packed y k
unfolding packed
packed-low_bits y z low k h f e is =
    let b = of_z w32 y % 4194304 in
    let m = bool_byte (is_leap_year y) in
    let mark : m ≤ 1 = bool_byte-most (is_leap_year y) in
    let short : k ≤ 366 = grind (arith, nat_tests) in
    let parts : low ≡ 512 * m + k = e ∙ ap (λ n. n + k) (leap_mark-byte y) in
    let below : low < 2 ^ 10 = omega (arith, parts, mark, short) in
    let value : packed y k ≡ y *ℤ pos 1024 +ℤ pos (512 * m + k) = ap (λ n. y *ℤ pos 1024 +ℤ pos (n + k)) (leap_mark-byte y) in
    let joined : b * 2 ^ 10 + low ≡ (b * 2 + m) * 2 ^ 9 + k = omega (arith, parts) in
    ap (λ n. to_z w32 (bit_or n (of_z w32 z))) (year_bits y)
    ∙ ap (λ n. to_z w32 (bit_or (b * 2 ^ 10) n)) (of_pos z low is (omega (arith, below, parts, mark, short)))
    ∙ ap (to_z w32) (or_shifted b 10 low below ∙ joined)
    ∙ packed-parts y (packed y k) m k h short mark value

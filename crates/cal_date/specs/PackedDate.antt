-- The packed value of a date, and its number.
use Rattle.std.specs.Prelude.{◌≡◌, ℕ, ◌+◌, ◌-◌, ◌*◌, ◌/◌, ◌%◌, ℤ, pos, negsuc, ◌+ℤ◌, ◌-ℤ◌, ◌*ℤ◌, unsigned_abs, if◌then◌else◌, Bool, true, false, not, ◌&&◌, nat_lt, nat_le, int_lt}
use Rattle.std.specs.Ordering.{int_eq}
use Rattle.std.proofs.lemmas.Bool.{and_parts, and_from, not-true, not_from_false, ltb-true, leb-true, lt-ltb, le-leb}
use Rattle.std.proofs.Common.{arith, ◌∙◌, refl, sym, ap}
use Rattle.std.proofs.lemmas.Int.{ints}
use Rattle.std.proofs.lemmas.Bool.Decides.{Decides-int_eq}
use Rattle.cal_units.specs.Lengths.{is_leap_year, days_in_year}
use Rattle.cal_date.specs.Date.{first_year, last_year, year_at, ordinal_at, IsYear, IsOrdinal, HasOrdinalDate}
use Rattle.cal_date.specs.CountLaws.{days_before, in_year, year_start-days_before}
use Rattle.cal_date.specs.declared.date.Date.TheInside.{Inside}

-- The leap mark of a year: 512 in a leap year, else 0.
abbrev pub leap_mark : ℤ → ℕ
leap_mark y = if is_leap_year y then 512 else 0

-- The packed value of an ordinal date: 1024 times the year, plus the leap mark and the ordinal.
abbrev pub packed_value : ℤ → ℕ → ℤ
packed_value y o = y *ℤ pos 1024 +ℤ pos (leap_mark y + o)

-- With this number added, each year of the range is positive, and so is its packed value.
abbrev pub packing_bias : ℕ
packing_bias = unsigned_abs first_year + 1

-- The year of a packed value, which is above its lowest ten bits.
abbrev pub year_part : ℤ → ℤ
year_part p = pos (unsigned_abs (p +ℤ pos (packing_bias * 1024)) / 1024) -ℤ pos packing_bias

-- The ordinal of a packed value, which is in its lowest nine bits.
abbrev pub ordinal_part : ℤ → ℕ
ordinal_part p = unsigned_abs (p +ℤ pos (packing_bias * 1024)) % 512

-- p is the packed value of y and o, a year of the range and an ordinal of this year.
abbrev pub packs : ℤ → ℤ → ℕ → Bool
packs p y o =
    not (int_lt y first_year) && (not (int_lt last_year y) && (nat_lt 0 o && (nat_le o (days_in_year y) && int_eq p (packed_value y o))))

-- p is the packed value of its own year and ordinal. The two cases let it compute only at numerals.
abbrev pub is_packed : ℤ → Bool
is_packed (pos n) = packs (pos n) (year_part (pos n)) (ordinal_part (pos n))
is_packed (negsuc n) = packs (negsuc n) (year_part (negsuc n)) (ordinal_part (negsuc n))

-- The field of a date holds the packed value of an ordinal date of the range.
abbrev pub IsPackedDate : Inside → Type 0
IsPackedDate d = is_packed d.packed ≡ true

-- The packed value of the year y and the ordinal o, for proofs that look at no bits.
unfoldable pub packed : ℤ → ℕ → ℤ
packed y o = packed_value y o

-- The year of a packed value, for proofs that look at no bits.
unfoldable pub year_of : ℤ → ℤ
year_of p = year_part p

-- The ordinal of a packed value, for proofs that look at no bits.
unfoldable pub ordinal_of : ℤ → ℕ
ordinal_of p = ordinal_part p

-- p is the packed value of a year and an ordinal in their ranges.
pub record IsPacked (p : ℤ) : Type 0 where
  pub year : IsYear (year_of p)
  pub ordinal : IsOrdinal (year_of p) (ordinal_of p)
  pub packed_is : p ≡ packed (year_of p) (ordinal_of p)

-- The statement that the test `packs` decides.
record Packs (p y : ℤ) (o : ℕ) : Type 0 where
  year : IsYear y
  ordinal : IsOrdinal y o
  packed_is : p ≡ packed_value y o

-- If the test passes, the statement is true.
Packs-packs : (p y : ℤ) (o : ℕ) → packs p y o ≡ true → Packs p y o
Packs-packs p y o h =
    let low = and_parts _ (not (int_lt last_year y) && (nat_lt 0 o && (nat_le o (days_in_year y) && int_eq p (packed_value y o)))) h in
    let high = and_parts _ (nat_lt 0 o && (nat_le o (days_in_year y) && int_eq p (packed_value y o))) low.1 in
    let first = and_parts _ (nat_le o (days_in_year y) && int_eq p (packed_value y o)) high.1 in
    let last = and_parts _ (int_eq p (packed_value y o)) first.1 in
    let least = not-true _ low.0 in
    let most = not-true _ high.0 in
    record {
      year = (grind (arith, ints, least), grind (arith, ints, most));
      ordinal = (ltb-true 0 o first.0, leb-true o (days_in_year y) last.0);
      packed_is = (Decides-int_eq p (packed_value y o)).0 last.1;
    }

-- If the statement is true, the test passes.
packs-Packs : (p y : ℤ) (o : ℕ) → Packs p y o → packs p y o ≡ true
packs-Packs p y o h =
    let least : int_lt y first_year ≡ false = grind (arith, ints, h.year.0) in
    let most : int_lt last_year y ≡ false = grind (arith, ints, h.year.1) in
    and_from _ _ (not_from_false _ least) (and_from _ _ (not_from_false _ most) (and_from _ _ (lt-ltb 0 o h.ordinal.0)
    (and_from _ _ (le-leb o (days_in_year y) h.ordinal.1) ((Decides-int_eq p (packed_value y o)).1 h.packed_is))))

-- Both cases of `is_packed` are the same test.
is_packed-packs : (p : ℤ) → is_packed p ≡ packs p (year_part p) (ordinal_part p)
is_packed-packs (pos n) = refl
is_packed-packs (negsuc n) = refl

-- The field of a date is the packed value of a year and an ordinal in their ranges.
pub IsPacked-fields : (d : Inside) → IsPackedDate d → IsPacked d.packed
unfolding packed year_of ordinal_of
IsPacked-fields d h =
    let is = Packs-packs d.packed (year_part d.packed) (ordinal_part d.packed) (sym (is_packed-packs d.packed) ∙ h) in
    record { year = is.year; ordinal = is.ordinal; packed_is = is.packed_is }

-- The packed value of a year and an ordinal in their ranges makes a date.
pub fields-IsPacked : (p : ℤ) → IsPacked p → IsPackedDate (record { packed = p })
unfolding packed year_of ordinal_of
fields-IsPacked p h =
    is_packed-packs p ∙ packs-Packs p (year_part p) (ordinal_part p) (record { year = h.year; ordinal = h.ordinal; packed_is = h.packed_is })

-- The number of an ordinal date: the days of the years before its year, and the days before it in
-- its year.
abbrev pub ordinal_number : ℤ → ℕ → ℕ
ordinal_number y o = days_before y + (o - 1)

-- The number of a date, from its field.
abbrev pub number_of : Inside → ℕ
number_of d = ordinal_number (year_of d.packed) (ordinal_of d.packed)

-- The packed value of day n.
abbrev pub packed_at : ℕ → ℤ
packed_at n = packed (year_at n) (ordinal_at n)

-- A date feeds its packed value to a hasher.
unfoldable pub hash_word : ℕ → ℤ
hash_word n = packed_at n

-- The field of the date of day n.
abbrev pub fields_at : ℕ → Inside
fields_at n = record { packed = packed_at n }

-- The number of an ordinal date of the range has this ordinal date.
pub HasOrdinalDate-ordinal_number : (y : ℤ) (o : ℕ) → IsYear y → IsOrdinal y o → HasOrdinalDate y o (ordinal_number y o)
HasOrdinalDate-ordinal_number y o h f =
    let here = in_year (days_before y) y (o - 1) (year_start-days_before y h.0) (omega arith) in
    (here.0, here.1 ∙ omega arith)

-- The number of a date has the ordinal date of its field.
pub HasOrdinalDate-number_of : (d : Inside) → IsPackedDate d → HasOrdinalDate (year_of d.packed) (ordinal_of d.packed) (number_of d)
HasOrdinalDate-number_of d h =
    let is = IsPacked-fields d h in
    HasOrdinalDate-ordinal_number (year_of d.packed) (ordinal_of d.packed) is.year is.ordinal

-- The packed value of the number of a date is its field.
pub packed_at-number_of : (d : Inside) → IsPackedDate d → packed_at (number_of d) ≡ d.packed
packed_at-number_of d h =
    let has = HasOrdinalDate-number_of d h in
    ap (λ y. packed y (ordinal_at (number_of d))) has.0 ∙ ap (packed (year_of d.packed)) has.1 ∙ sym (IsPacked-fields d h).packed_is

-- A date is the date of its number.
pub fields_at-number_of : (d : Inside) → IsPackedDate d → fields_at (number_of d) ≡ d
fields_at-number_of d h =
    let e = packed_at-number_of d h in
    λ i. record { packed = e i }

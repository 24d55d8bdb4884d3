-- The table of the days before each month, and the month of a day by the table.
use Rattle.std.proofs.Common.{◌≡◌, ℕ, List, pos, ◌+◌, ◌-◌, ◌*◌, ◌/◌, ◌%◌, ◌<◌, ◌≤◌, [], ◌∷◌, slice_index_or, arith, refl, ap, ◌∙◌, if◌then◌else◌, min, lit≤, lit<, ℤ, Bool, true, false, nat_lt, sym, subst, inl, inr}
use Rattle.std.proofs.lemmas.Bool.{cases_lt, lt-ltb}
use Rattle.std.proofs.lemmas.Bool.Decides.{nat_tests}
use mir.Val.{bool_byte}
use Rattle.cal_units.specs.Lengths.{is_leap_year, days_in_month}
use Rattle.cal_date.specs.Date.{year_at, month_at, day_of_month_at, ordinal_at, IsYear, IsOrdinal, IsDayOfMonth}
use Rattle.cal_date.specs.CountLaws.{days_of_months}
use Rattle.cal_date.specs.PackedDate.{leap_mark}
use Rattle.cal_date.proofs.Calendar.{in_month_of, ordinal_in, IsOrdinal-ordinal_in}
use Rattle.cal_date.proofs.Months.{each_month, days_of_months-next}
use Rattle.cal_date.proofs.Packed.{bool_byte-most}

-- The leap mark and the days before each month. A leap year begins at 16.
abbrev pub starts : List ℕ
starts = 0 ∷ 31 ∷ 59 ∷ 90 ∷ 120 ∷ 151 ∷ 181 ∷ 212 ∷ 243 ∷ 273 ∷ 304 ∷ 334 ∷ 365 ∷ 0 ∷ 0 ∷ 0
    ∷ 512 ∷ 543 ∷ 572 ∷ 603 ∷ 633 ∷ 664 ∷ 694 ∷ 725 ∷ 756 ∷ 786 ∷ 817 ∷ 847 ∷ 878 ∷ 0 ∷ 0 ∷ 0 ∷ 0 ∷ []

abbrev pub start : ℕ → ℕ
start j = slice_index_or starts j 0

record IsStart (y : ℤ) (i : ℕ) : Type 0 where
  common : is_leap_year y ≡ false → start i ≡ days_of_months y i
  leap : is_leap_year y ≡ true → start (16 + i) ≡ 512 + days_of_months y i
  most : (start i ≤ 878) × (start (16 + i) ≤ 878)

at_twelve : (y : ℤ) → IsStart y 12
unfolding days_of_months days_in_month
at_twelve y = record { common = λ h. grind (arith, nat_tests); leap = λ h. grind (arith, nat_tests); most = (lit≤ tt, lit≤ tt) }

is_start : (y : ℤ) (i : ℕ) → i ≤ 12 → IsStart y i
unfolding days_of_months days_in_month
is_start y i low =
    elim (cases_lt i 12) [
      | inl below ↦
          each_month (λ m. IsStart y m)
          (record { common = λ h. grind (arith, nat_tests); leap = λ h. grind (arith, nat_tests); most = (lit≤ tt, lit≤ tt) })
          (record { common = λ h. grind (arith, nat_tests); leap = λ h. grind (arith, nat_tests); most = (lit≤ tt, lit≤ tt) })
          (record { common = λ h. grind (arith, nat_tests); leap = λ h. grind (arith, nat_tests); most = (lit≤ tt, lit≤ tt) })
          (record { common = λ h. grind (arith, nat_tests); leap = λ h. grind (arith, nat_tests); most = (lit≤ tt, lit≤ tt) })
          (record { common = λ h. grind (arith, nat_tests); leap = λ h. grind (arith, nat_tests); most = (lit≤ tt, lit≤ tt) })
          (record { common = λ h. grind (arith, nat_tests); leap = λ h. grind (arith, nat_tests); most = (lit≤ tt, lit≤ tt) })
          (record { common = λ h. grind (arith, nat_tests); leap = λ h. grind (arith, nat_tests); most = (lit≤ tt, lit≤ tt) })
          (record { common = λ h. grind (arith, nat_tests); leap = λ h. grind (arith, nat_tests); most = (lit≤ tt, lit≤ tt) })
          (record { common = λ h. grind (arith, nat_tests); leap = λ h. grind (arith, nat_tests); most = (lit≤ tt, lit≤ tt) })
          (record { common = λ h. grind (arith, nat_tests); leap = λ h. grind (arith, nat_tests); most = (lit≤ tt, lit≤ tt) })
          (record { common = λ h. grind (arith, nat_tests); leap = λ h. grind (arith, nat_tests); most = (lit≤ tt, lit≤ tt) })
          (record { common = λ h. grind (arith, nat_tests); leap = λ h. grind (arith, nat_tests); most = (lit≤ tt, lit≤ tt) })
          i below
      | inr last ↦ let is : 12 ≡ i = omega arith in subst (IsStart y) is (at_twelve y)
    ]

pub start-is : (y : ℤ) (i : ℕ) (leap : Bool) (j : ℕ) → j ≡ 16 * bool_byte leap + i → leap ≡ is_leap_year y → i ≤ 12 → start j ≡ leap_mark y + days_of_months y i
start-is y i true j at same low =
    let place : 16 + i ≡ j = omega (arith, at) in
    let mark : 512 ≡ leap_mark y = ap (λ b. if b then 512 else 0) same in
    ap start (sym place) ∙ (is_start y i low).leap (sym same) ∙ ap (λ n. n + days_of_months y i) mark
start-is y i false j at same low =
    let place : i ≡ j = omega (arith, at) in
    let mark : 0 ≡ leap_mark y = ap (λ b. if b then 512 else 0) same in
    let sum : days_of_months y i ≡ leap_mark y + days_of_months y i = omega (arith, mark) in
    ap start (sym place) ∙ (is_start y i low).common (sym same) ∙ sum

pub start-most : (i : ℕ) (leap : Bool) (j : ℕ) → j ≡ 16 * bool_byte leap + i → i ≤ 12 → start j ≤ 878
start-most i true j at low = let place : 16 + i ≡ j = omega (arith, at) in subst (λ k. start k ≤ 878) place (is_start (pos 0) i low).most.1
start-most i false j at low = let place : i ≡ j = omega (arith, at) in subst (λ k. start k ≤ 878) place (is_start (pos 0) i low).most.0

-- A month begins no more than 32 days before 32 times its entry, and ends before the next multiple.
record IsRow (j : ℕ) : Type 0 where
  first : 32 * j ≤ start j + 32
  last : start (j + 1) < 32 * (j + 1)

rows : (i : ℕ) → i < 12 → IsRow i × IsRow (16 + i)
rows i low =
    each_month (λ k. IsRow k × IsRow (16 + k))
    (record { first = lit≤ tt; last = lit< tt }, record { first = lit≤ tt; last = lit< tt })
    (record { first = lit≤ tt; last = lit< tt }, record { first = lit≤ tt; last = lit< tt })
    (record { first = lit≤ tt; last = lit< tt }, record { first = lit≤ tt; last = lit< tt })
    (record { first = lit≤ tt; last = lit< tt }, record { first = lit≤ tt; last = lit< tt })
    (record { first = lit≤ tt; last = lit< tt }, record { first = lit≤ tt; last = lit< tt })
    (record { first = lit≤ tt; last = lit< tt }, record { first = lit≤ tt; last = lit< tt })
    (record { first = lit≤ tt; last = lit< tt }, record { first = lit≤ tt; last = lit< tt })
    (record { first = lit≤ tt; last = lit< tt }, record { first = lit≤ tt; last = lit< tt })
    (record { first = lit≤ tt; last = lit< tt }, record { first = lit≤ tt; last = lit< tt })
    (record { first = lit≤ tt; last = lit< tt }, record { first = lit≤ tt; last = lit< tt })
    (record { first = lit≤ tt; last = lit< tt }, record { first = lit≤ tt; last = lit< tt })
    (record { first = lit≤ tt; last = lit< tt }, record { first = lit≤ tt; last = lit< tt })
    i low

row_of : (i : ℕ) (leap : Bool) → i < 12 → IsRow (16 * bool_byte leap + i)
row_of i true low = let place : 16 + i ≡ 16 * bool_byte true + i = omega arith in subst IsRow place (rows i low).1
row_of i false low = let place : i ≡ 16 * bool_byte false + i = omega arith in subst IsRow place (rows i low).0

-- So a quotient by 32 is the entry, or one less if the next month has begun.
quotient-is : (low j : ℕ) → IsRow j → start j < low → low ≤ start (j + 1) → low / 32 + bool_byte (nat_lt (start (low / 32 + 1)) low) ≡ j
quotient-is low j row after upto =
    elim (cases_lt (low / 32) j) [
      | inl less ↦
          let next : low / 32 + 1 ≡ j = omega (arith, row.first, after, less) in
          let begun : nat_lt (start (low / 32 + 1)) low ≡ true = ap (λ k. nat_lt (start k) low) next ∙ lt-ltb _ _ after in
          ap (λ b. low / 32 + bool_byte b) begun ∙ next
      | inr same ↦
          let here : low / 32 ≡ j = omega (arith, row.last, upto, same) in
          let later : nat_lt (start (j + 1)) low ≡ false = grind (arith, nat_tests, upto) in
          let begun : nat_lt (start (low / 32 + 1)) low ≡ false = ap (λ k. nat_lt (start (k + 1)) low) here ∙ later in
          ap (λ b. low / 32 + bool_byte b) begun ∙ omega (arith, here)
    ]

-- The entry of the month of day n in the table.
pub record IsEntry (n low j : ℕ) : Type 0 where
  pub month : j % 16 + 1 ≡ month_at n
  pub below : j % 16 < 12
  pub most : j ≤ 27
  pub after : start j < low
  pub day : low - start j ≡ day_of_month_at n

pub entry-is : (n low : ℕ) → low ≡ leap_mark (year_at n) + ordinal_at n → IsEntry n low (low / 32 + bool_byte (nat_lt (start (low / 32 + 1)) low))
entry-is n low bits =
    let at = in_month_of n in
    let y = year_at n in
    let i = at.months in
    let below : i < 12 = at.stands.month in
    let leap = is_leap_year y in
    let j = 16 * bool_byte leap + i in
    let mark : bool_byte leap ≤ 1 = bool_byte-most leap in
    let here = start-is y i leap j refl refl (omega (arith, below)) in
    let next = start-is y (i + 1) leap (j + 1) (omega arith) refl (omega (arith, below)) in
    let after : start j < low = omega (arith, bits, here, at.stands.ordinal_is, at.stands.day.0) in
    let upto : low ≤ start (j + 1) = omega (arith, bits, next, days_of_months-next y i, at.stands.ordinal_is, at.stands.day.1) in
    let remainder : j % 16 ≡ i = omega (arith, below) in
    subst (IsEntry n low) (sym (quotient-is low j (row_of i leap below) after upto)) (record {
      month = omega (arith, remainder, at.month_is);
      below = omega (arith, remainder, below);
      most = omega (arith, mark, below);
      after = after;
      day = omega (arith, bits, here, at.stands.ordinal_is);
    })

-- A day of a month or its last day, by the leap mark and the days before the month and the next.
pub record IsClamped (y : ℤ) (i d low : ℕ) : Type 0 where
  pub day : IsDayOfMonth y (i + 1) (min d (days_in_month y (i + 1)))
  pub low_is : low - leap_mark y ≡ ordinal_in y i (min d (days_in_month y (i + 1)))
  pub ordinal : IsOrdinal y (ordinal_in y i (min d (days_in_month y (i + 1))))

pub clamped : (y : ℤ) (i d begin next low : ℕ) → IsYear y → i < 12 → 1 ≤ d → begin ≡ leap_mark y + days_of_months y i → next ≡ leap_mark y + days_of_months y (i + 1)
    → low ≡ min (begin + d) next → IsClamped y i d low
unfolding days_in_month
clamped y i d begin next low year below some first last is =
    let length = days_of_months-next y i in
    let one : 1 ≤ days_in_month y (i + 1) = grind (arith, nat_tests) in
    let day : IsDayOfMonth y (i + 1) (min d (days_in_month y (i + 1))) = (grind (arith, some, one), grind arith) in
    record {
      day = day;
      low_is = grind (arith, first, last, length, is);
      ordinal = IsOrdinal-ordinal_in y i _ year.0 below day;
    }

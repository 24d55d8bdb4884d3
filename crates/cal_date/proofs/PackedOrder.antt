-- Comparing the packed values compares the numbers.
use Rattle.std.proofs.Common.{◌≡◌, ℕ, ◌+◌, ◌<◌, ◌≤◌, ℤ, pos, ◌+ℤ◌, ◌-ℤ◌, ◌<ℤ◌, ◌≤ℤ◌, unsigned_abs, ap, sym, ◌∙◌, subst, arith, inl, inr, Less, Equal, Greater, nat_eq, to_z, of_z, w32, FitsSigned}
use Rattle.std.specs.Ordering.{int_cmp, nat_cmp}
use Rattle.std.proofs.lemmas.Int.{ints, by_lt_z, to_z-of_z}
use Rattle.std.proofs.lemmas.Bool.{cases_eq, eq-eqb, ne_eqb}
use Rattle.std.proofs.lemmas.Bool.Decides.{nat_tests}
use Rattle.cal_units.specs.Lengths.{days_in_year}
use Rattle.cal_date.specs.Date.{first_year, IsOrdinal}
use Rattle.cal_date.specs.CountLaws.{days_of_years, days_before, days_of_years-closed}
use Rattle.cal_date.specs.PackedDate.{packed, leap_mark, year_of, ordinal_of, number_of, ordinal_number, IsPacked, IsPackedDate, IsPacked-fields, packed_at, packed_at-number_of}
use Rattle.cal_date.specs.declared.date.Date.TheInside.{Inside}
use Rattle.cal_date.proofs.Packed.{packed-i32}
use Rattle.cal_date.proofs.Years.{days_before-next}

days_of_years-rises : (i j : ℕ) → i ≤ j → days_of_years i ≤ days_of_years j
days_of_years-rises i j h = omega (arith, days_of_years-closed i, days_of_years-closed j)

-- All days of a year come before a later year.
days_before-less : (y z : ℤ) → first_year ≤ℤ y → y <ℤ z → days_before y + days_in_year y ≤ days_before z
days_before-less y z first less =
    let later : unsigned_abs ((y +ℤ pos 1) -ℤ first_year) ≤ unsigned_abs (z -ℤ first_year) = omega (arith, ints) in
    omega (arith, days_before-next y first, days_of_years-rises _ _ later)

earlier_year : (a b : Inside) → IsPacked a.packed → IsPacked b.packed → year_of a.packed <ℤ year_of b.packed → number_of a < number_of b
earlier_year a b h k less = omega (arith, h.ordinal, k.ordinal, days_before-less (year_of a.packed) (year_of b.packed) h.year.0 less)

earlier_ordinal : (a b : Inside) → IsPacked a.packed → year_of a.packed ≡ year_of b.packed → ordinal_of a.packed < ordinal_of b.packed → number_of a < number_of b
earlier_ordinal a b h e less = omega (arith, h.ordinal, ap days_before e)

-- A smaller packed value has an earlier year, or the same year and a smaller ordinal.
record IsEarlier (y : ℤ) (o : ℕ) (z : ℤ) (p : ℕ) : Type 0 where
  year : y ≤ℤ z
  ordinal : y ≡ z → o < p

packed-less : (y : ℤ) (o : ℕ) (z : ℤ) (p : ℕ) → IsOrdinal y o → IsOrdinal z p → packed y o <ℤ packed z p → IsEarlier y o z p
unfolding packed
packed-less y o z p h k less = record {
  year = grind (arith, ints, nat_tests);
  ordinal = λ e. let mark : leap_mark y ≡ leap_mark z = ap leap_mark e in omega (arith, ints);
}

earlier_packed : (a b : Inside) → IsPacked a.packed → IsPacked b.packed → a.packed <ℤ b.packed → number_of a < number_of b
earlier_packed a b h k less =
    let before : packed (year_of a.packed) (ordinal_of a.packed) <ℤ packed (year_of b.packed) (ordinal_of b.packed) =
    rw (← h.packed_is, ← k.packed_is) less in
    let is = packed-less _ _ _ _ h.ordinal k.ordinal before in
    by_lt_z (year_of a.packed) (year_of b.packed)
    (λ earlier. earlier_year a b h k earlier)
    (λ most. let e : year_of a.packed ≡ year_of b.packed = omega (arith, ints, is.year) in earlier_ordinal a b h e (is.ordinal e))

-- The results of the comparisons.
int_cmp-less : (x y : ℤ) → x <ℤ y → int_cmp x y ≡ Less
int_cmp-less x y h = grind (arith, ints)

int_cmp-greater : (x y : ℤ) → y <ℤ x → int_cmp x y ≡ Greater
int_cmp-greater x y h = grind (arith, ints)

int_cmp-equal : (x y : ℤ) → x ≡ y → int_cmp x y ≡ Equal
int_cmp-equal x y h = grind (arith, ints)

nat_cmp-less : (x y : ℕ) → x < y → nat_cmp x y ≡ Less
nat_cmp-less x y h = grind (arith, nat_tests)

nat_cmp-greater : (x y : ℕ) → y < x → nat_cmp x y ≡ Greater
nat_cmp-greater x y h = grind (arith, nat_tests)

nat_cmp-equal : (x y : ℕ) → x ≡ y → nat_cmp x y ≡ Equal
nat_cmp-equal x y h = grind (arith, nat_tests)

pub nat_cmp-packed : (a b : Inside) → IsPackedDate a → IsPackedDate b → int_cmp a.packed b.packed ≡ nat_cmp (number_of a) (number_of b)
nat_cmp-packed a b h k =
    by_lt_z a.packed b.packed
    (λ less. int_cmp-less a.packed b.packed less ∙ sym (nat_cmp-less (number_of a) (number_of b) (earlier_packed a b (IsPacked-fields a h) (IsPacked-fields b k) less)))
    (λ most. by_lt_z b.packed a.packed
    (λ more. int_cmp-greater a.packed b.packed more ∙ sym (nat_cmp-greater (number_of a) (number_of b) (earlier_packed b a (IsPacked-fields b k) (IsPacked-fields a h) more)))
    (λ least. let e : a.packed ≡ b.packed = omega (arith, ints) in
    int_cmp-equal a.packed b.packed e ∙ sym (nat_cmp-equal (number_of a) (number_of b) (ap (λ p. ordinal_number (year_of p) (ordinal_of p)) e))))

-- Dates with the same number have the same packed value.
pub same_packed : (a b : Inside) → IsPackedDate a → IsPackedDate b → number_of a ≡ number_of b → a.packed ≡ b.packed
same_packed a b h k e = sym (packed_at-number_of a h) ∙ ap packed_at e ∙ packed_at-number_of b k

fits : (d : Inside) → IsPackedDate d → FitsSigned w32 d.packed
fits d h = let is = IsPacked-fields d h in subst (FitsSigned w32) (sym is.packed_is) (packed-i32 _ _ is.year is.ordinal)

-- The bits of two packed values are equal if and only if the numbers are equal.
pub nat_eq-packed : (a b : Inside) → IsPackedDate a → IsPackedDate b → nat_eq (of_z w32 b.packed) (of_z w32 a.packed) ≡ nat_eq (number_of a) (number_of b)
nat_eq-packed a b h k =
    elim (cases_eq (number_of a) (number_of b)) [
      | inl e ↦ eq-eqb _ _ (ap (of_z w32) (sym (same_packed a b h k e))) ∙ sym (eq-eqb _ _ e)
      | inr other ↦
          let number = λ (p : ℤ). ordinal_number (year_of p) (ordinal_of p) in
          let differs : of_z w32 b.packed ≡ of_z w32 a.packed → ⊥ =
          λ same. other (ap number (sym (to_z-of_z w32 a.packed (fits a h)) ∙ ap (to_z w32) (sym same) ∙ to_z-of_z w32 b.packed (fits b k))) in
          ne_eqb _ _ differs ∙ sym (ne_eqb _ _ other)
    ]

pub ruleset order_of_packed = (nat_cmp-packed, nat_eq-packed)

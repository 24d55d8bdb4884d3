use Rattle.std.proofs.Common.{arith, sym, subst, ◌≡◌, ◌∙◌, ap, ◌^◌, ◌≤ℤ◌, neg_ℤ, pos, ℤ, ◌-ℤ◌, ◌+ℤ◌, w64, to_z, of_z, FitsSigned}
use Rattle.std.proofs.lemmas.Int.{ints, to_z-of_z}
use Rattle.std.specs.Int.{int_div_euclid, int_rem_euclid}
use Rattle.cal_units.proofs.Weeks.{leap_days, int_div_euclid-small, first_weekday-divided}
use Rattle.cal_units.proofs.util.first_weekday.Goals as goal

-- A number as the code stores it.
abbrev held : ℤ → ℤ
held z = to_z w64 (of_z w64 z)

-- z is within 2 ^ 33.
abbrev IsSmall : ℤ → Type 0
IsSmall z = (neg_ℤ (pos (2 ^ 33)) ≤ℤ z) × (z ≤ℤ pos (2 ^ 33))

fits : (z : ℤ) → IsSmall z → FitsSigned w64 z
fits z small = omega (arith, ints, small.0, small.1)

difference-fits : (x y : ℤ) → IsSmall x → IsSmall y → FitsSigned w64 (x -ℤ y)
difference-fits x y p q = omega (arith, ints, p.0, p.1, q.0, q.1)

sum-fits : (x y z : ℤ) → IsSmall x → IsSmall y → IsSmall z → FitsSigned w64 ((x -ℤ y) +ℤ z)
sum-fits x y z p q r = omega (arith, ints, p.0, p.1, q.0, q.1, r.0, r.1)

all-fit : (w x y z : ℤ) → IsSmall w → IsSmall x → IsSmall y → IsSmall z → FitsSigned w64 (w +ℤ ((x -ℤ y) +ℤ z))
all-fit w x y z o p q r = omega (arith, ints, o.0, o.1, p.0, p.1, q.0, q.1, r.0, r.1)

-- The year before a year of 32 bits, as the code stores it.
year_before : (year : ℤ) → neg_ℤ (pos (2 ^ 32)) ≤ℤ year → year ≤ℤ pos (2 ^ 32) → (held (held year -ℤ pos 1) ≡ year -ℤ pos 1) × IsSmall (year -ℤ pos 1)
year_before year low high =
    let small : IsSmall (year -ℤ pos 1) = (omega (arith, ints), omega (arith, ints)) in
    (ap (λ z. held (z -ℤ pos 1)) (to_z-of_z w64 year (omega (arith, ints))) ∙ to_z-of_z w64 (year -ℤ pos 1) (fits (year -ℤ pos 1) small), small)

-- What the code computes from the quotients: nothing overflows, and the sum is exact.
record IsComputed (passed years four hundred four_hundred : ℤ) : Type 0 where
  leaps_fit : FitsSigned w64 (held (held four -ℤ held hundred) +ℤ held four_hundred)
  days_fit : FitsSigned w64 (passed +ℤ held (held (held four -ℤ held hundred) +ℤ held four_hundred))
  days_are : held (passed +ℤ held (held (held four -ℤ held hundred) +ℤ held four_hundred)) ≡ years +ℤ leap_days years

computed : (passed years four hundred four_hundred : ℤ) → passed ≡ years → IsSmall years
    → four ≡ int_div_euclid passed (pos 4) → hundred ≡ int_div_euclid passed (pos 100) → four_hundred ≡ int_div_euclid passed (pos 400)
    → IsComputed passed years four hundred four_hundred
computed passed years four hundred four_hundred same small e4 e100 e400 =
    let by_four = e4 ∙ ap (λ z. int_div_euclid z (pos 4)) same in
    let by_hundred = e100 ∙ ap (λ z. int_div_euclid z (pos 100)) same in
    let by_four_hundred = e400 ∙ ap (λ z. int_div_euclid z (pos 400)) same in
    let p = int_div_euclid-small years four 4 small by_four in
    let q = int_div_euclid-small years hundred 100 small by_hundred in
    let r = int_div_euclid-small years four_hundred 400 small by_four_hundred in
    let first = to_z-of_z w64 four (fits four p) in
    let second = to_z-of_z w64 hundred (fits hundred q) in
    let third = to_z-of_z w64 four_hundred (fits four_hundred r) in
    let difference : held (held four -ℤ held hundred) ≡ four -ℤ hundred = (λ i. held (first i -ℤ second i)) ∙ to_z-of_z w64 (four -ℤ hundred) (difference-fits four hundred p q) in
    let leaps : held (held (held four -ℤ held hundred) +ℤ held four_hundred) ≡ (four -ℤ hundred) +ℤ four_hundred =
    (λ i. held (difference i +ℤ third i)) ∙ to_z-of_z w64 ((four -ℤ hundred) +ℤ four_hundred) (sum-fits four hundred four_hundred p q r) in
    record {
      leaps_fit = subst (FitsSigned w64) (sym (λ i. difference i +ℤ third i)) (sum-fits four hundred four_hundred p q r);
      days_fit = subst (FitsSigned w64) (sym (λ i. same i +ℤ leaps i)) (all-fit years four hundred four_hundred small p q r);
      days_are = (λ i. held (same i +ℤ leaps i)) ∙ to_z-of_z w64 (years +ℤ ((four -ℤ hundred) +ℤ four_hundred)) (all-fit years four hundred four_hundred small p q r)
          ∙ (λ i. years +ℤ ((by_four i -ℤ by_hundred i) +ℤ by_four_hundred i));
    }

pub overflow_add-leap_days : goal.overflow_add-leap_days
overflow_add-leap_days c =
    let before = year_before c.args.year c.requires.min c.requires.max in
    (computed (held (held c.args.year -ℤ pos 1)) (c.args.year -ℤ pos 1) c.div_euclid.result c.div_euclid-2.result c.div_euclid-3.result before.0 before.1 c.div_euclid.ensures c.div_euclid-2.ensures c.div_euclid-3.ensures).leaps_fit

pub overflow_add-years : goal.overflow_add-years
overflow_add-years c =
    let before = year_before c.args.year c.requires.min c.requires.max in
    (computed (held (held c.args.year -ℤ pos 1)) (c.args.year -ℤ pos 1) c.div_euclid.result c.div_euclid-2.result c.div_euclid-3.result before.0 before.1 c.div_euclid.ensures c.div_euclid-2.ensures c.div_euclid-3.ensures).days_fit

pub returns : goal.returns
returns c =
    let before = year_before c.args.year c.requires.min c.requires.max in
    let all = computed (held (held c.args.year -ℤ pos 1)) (c.args.year -ℤ pos 1) c.div_euclid.result c.div_euclid-2.result c.div_euclid-3.result before.0 before.1 c.div_euclid.ensures c.div_euclid-2.ensures c.div_euclid-3.ensures in
    let kept : held c.rem_euclid.result ≡ c.rem_euclid.result = omega (arith, ints) in
    kept ∙ c.rem_euclid.ensures.value ∙ ap (λ z. int_rem_euclid z (pos 7)) all.days_are ∙ first_weekday-divided c.args.year

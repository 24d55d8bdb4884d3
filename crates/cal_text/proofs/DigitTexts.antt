-- Decimal digits, filled up with zeros to a width.
use Rattle.std.proofs.Math.Nat.{pow-le-pow_right}
use Rattle.std.proofs.Common.{◌≡◌, ◌≢◌, ℕ, zero, suc, ◌+◌, ◌-◌, ◌<◌, ◌≤◌, ◌^◌, List, [], ◌∷◌, ◌++◌, length, get_or, replicate, refl, sym, ap, subst, ◌∙◌, arith, inl, inr, lit<}
use Rattle.std.specs.Prelude.{decimal}
use Rattle.std.specs.Str.Parse.{AllDigits, digits_value}
use Rattle.std.proofs.lemmas.Bool.{cases_eq, cases_lt}
use Rattle.std.proofs.lemmas.Fmt.{decimal-digits_value, length-decimal-le, first_decimal}
use Rattle.std.proofs.lemmas.Int.Digits.{digits_value-lt}
use Rattle.std.proofs.lemmas.List.{length-append, length-replicate}
use Rattle.std.proofs.lemmas.Str.Parse.{IsNumeralModel, numerals_by_value, tells_digits, digits_value_short}
use Rattle.cal_time.specs.DateText.{digits_at_least}

pub digits_at_least-length : (width n : ℕ) → 0 < width → n < 10 ^ width → n < 10 ^ 9 → length (digits_at_least width n) ≡ width
digits_at_least-length width n some below h =
    let short = length-decimal-le width n some below (omega arith) in
    length-append (replicate (width - length (decimal n)) 48) (decimal n) ∙ omega (arith, length-replicate {A = ℕ} (width - length (decimal n)) 48)

own : IsNumeralModel (AllDigits 10) (digits_value 10)
own = numerals_by_value _ tells_digits

-- digits are what their value prints at their width
first-zero : (cs ds : List ℕ) (L : ℕ) → L ≤ length cs → replicate (length cs - L) 48 ++ ds ≡ cs → replicate (suc (length cs) - L) 48 ++ ds ≡ 48 ∷ cs
first-zero cs ds L h e =
    let more : suc (length cs) - L ≡ suc (length cs - L) = omega arith in
    rw more (ap (λ rest. 48 ∷ rest) e)

zero-first : (cs : List ℕ) → AllDigits 10 cs → 0 < length cs → length cs ≤ 8 → digits_at_least (length cs) (digits_value 10 cs) ≡ cs
    → digits_at_least (suc (length cs)) (digits_value 10 (48 ∷ cs)) ≡ 48 ∷ cs
zero-first cs h some few e =
    let below : digits_value 10 cs < 10 ^ length cs = digits_value-lt 10 cs h in
    let small : digits_value 10 cs < 10 ^ 8 = digits_value_short own cs 8 h few in
    first-zero cs (decimal (digits_value 10 cs)) (length (decimal (digits_value 10 cs))) (length-decimal-le (length cs) (digits_value 10 cs) some below (omega arith)) e

other-first : (ds : List ℕ) → decimal (digits_value 10 ds) ≡ ds → digits_at_least (length ds) (digits_value 10 ds) ≡ ds
other-first ds e =
    let none : length ds - length (decimal (digits_value 10 ds)) ≡ 0 = omega (arith, ap length e) in
    ap (λ k. replicate k 48 ++ decimal (digits_value 10 ds)) none ∙ e

abbrev Printed : List ℕ → Type 0
Printed ds = digits_at_least (length ds) (digits_value 10 ds) ≡ ds

pub digits-printed : (ds : List ℕ) → AllDigits 10 ds → 0 < length ds → length ds ≤ 9 → digits_at_least (length ds) (digits_value 10 ds) ≡ ds
digits-printed [] h some few = absurd (omega arith)
digits-printed (c ∷ []) h some few =
    let below : digits_value 10 (c ∷ []) < 10 ^ 9 = digits_value_short own (c ∷ []) 9 h few in
    other-first (c ∷ []) (decimal-digits_value own (c ∷ []) h some (λ e. refl) (omega arith))
digits-printed (c ∷ d ∷ ds) h some few =
    let below : digits_value 10 (c ∷ d ∷ ds) < 10 ^ 9 = digits_value_short own (c ∷ d ∷ ds) 9 h few in
    let rest : Printed (d ∷ ds) = digits-printed (d ∷ ds) h.1 (omega arith) (omega arith) in
    elim (cases_eq c 48) as (λ _. Printed (c ∷ d ∷ ds)) [
      | inl e ↦ subst (λ first. Printed (first ∷ d ∷ ds)) (sym e) (zero-first (d ∷ ds) h.1 (omega arith) (omega arith) rest)
      | inr other ↦ other-first (c ∷ d ∷ ds) (decimal-digits_value own (c ∷ d ∷ ds) h some (λ e. absurd (other e)) (omega arith))
    ]

-- Four digits or more of a number. If there are five to nine, the first is not 0.
length-digits_at_least : (width n : ℕ) → length (digits_at_least width n) ≡ width - length (decimal n) + length (decimal n)
length-digits_at_least width n =
    length-append (replicate (width - length (decimal n)) 48) (decimal n) ∙ ap (λ k. k + length (decimal n)) (length-replicate {A = ℕ} (width - length (decimal n)) 48)

pub record IsMagnitude (ds : List ℕ) : Type 0 where
  pub least : 4 ≤ length ds
  pub most : length ds ≤ 9
  pub first : 4 < length ds → get_or ds 0 0 ≢ 48

decimal-first : (n : ℕ) → 4 < length (decimal n) → n < 10 ^ 9 → get_or (decimal n) 0 0 ≢ 48
decimal-first n long small e =
    let L = length (decimal n) in
    let some : 0 < n = elim (cases_lt n 1) as (λ _. 0 < n) [ inl below ↦ absurd (omega (arith, length-decimal-le 1 n (lit< tt) (omega arith) (omega arith))) | inr above ↦ omega arith ] in
    omega (arith, first_decimal n some (omega arith))

pub digits_at_least-magnitude : (n : ℕ) → n < 10 ^ 9 → IsMagnitude (digits_at_least 4 n)
digits_at_least-magnitude n small =
    let short = length-decimal-le 9 n (lit< tt) small (omega arith) in
    let long = length-digits_at_least 4 n in
    record {
      least = omega arith;
      most = omega arith;
      first = λ more.
          let none : 4 - length (decimal n) ≡ 0 = omega arith in
          subst (λ ds. get_or ds 0 0 ≢ 48) (ap (λ k. replicate k 48 ++ decimal n) (sym none)) (decimal-first n (omega arith) small);
    }

-- without zeros at the front, the width does not show
pub full-width : (ds : List ℕ) (k n : ℕ) → ds ≡ replicate k 48 ++ decimal n → get_or ds 0 0 ≢ 48 → ds ≡ decimal n
full-width ds zero n e first = e
full-width ds (suc k) n e first = absurd (first (ap (λ all. get_or all 0 0) e))

pub magnitude-printed : (ds : List ℕ) (n : ℕ) → IsMagnitude ds → ds ≡ digits_at_least (length ds) n → ds ≡ digits_at_least 4 n
magnitude-printed ds n h e =
    elim (cases_lt 4 (length ds)) as (λ _. ds ≡ digits_at_least 4 n) [
      | inl more ↦
          let plain : ds ≡ decimal n = full-width ds (length ds - length (decimal n)) n e (h.first more) in
          let none : 4 - length (decimal n) ≡ 0 = omega (arith, ap length plain) in
          plain ∙ ap (λ k. replicate k 48 ++ decimal n) (sym none)
      | inr same ↦
          let four : length ds ≡ 4 = omega (arith, h.least) in
          e ∙ ap (λ width. digits_at_least width n) four
    ]

pub below-nine : (ds : List ℕ) (n : ℕ) → length ds ≤ 9 → n < 10 ^ length ds → n < 10 ^ 9
below-nine ds n few below = let more : 10 ^ length ds ≤ 10 ^ 9 = pow-le-pow_right (lit< tt) few in omega (arith, more, below)

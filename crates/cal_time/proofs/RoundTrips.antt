-- Where a law between calls asks for more than the search finds.
use Rattle.std.proofs.Common.{◌≡◌, ℕ, List, [], ◌∷◌, ◌++◌, reverse, append_assoc, Option, Some, None, SomeIff, sym, ap, ◌∙◌, arith, ℤ, pos, negsuc, ◌-ℤ◌, ◌*ℤ◌, unsigned_abs}
use Rattle.std.proofs.lemmas.Int.{ints}
use Rattle.std.proofs.lemmas.List.{reverse-append}
use Rattle.cal_span.specs.SignedDuration.{day, whole_days}
use Rattle.cal_date.specs.Date.{first_julian_day, IsDate, HasJulianDay}
use Rattle.cal_date.specs.Arithmetic.{IsDateNumber, clamped_date}
use Rattle.cal_date.proofs.Moves.{number-clamped_date}

-- a value where there is one
pub value-one : {T : Type 0} (r : Option T) (P : Type 0) (v w : T) → SomeIff r P v → P → v ≡ w → r ≡ Some w
value-one None P v w h p e = absurd (h p)
value-one (Some x) P v w h p e = ap Some (h.1 ∙ e)

-- the day of a number
pub date-one : (r : Option ℕ) (z : ℤ) (n : ℕ) → SomeIff r (IsDateNumber z) (clamped_date z) → z ≡ pos n → IsDate n → r ≡ Some n
date-one r z n h e date =
    let at = number-clamped_date n z date e in
    value-one r (IsDateNumber z) (clamped_date z) n h at.0 (sym at.1)

-- the days of a duration of whole days
pub whole_days-of_days : (z : ℤ) → whole_days (z *ℤ pos day) ≡ z
whole_days-of_days (pos n) = omega (arith, ints)
whole_days-of_days (negsuc n) = omega (arith, ints)

-- a Julian day of the range is that of a day
pub julian_day-some : (j : ℤ) → IsDateNumber (j -ℤ first_julian_day) → (n : ℕ) × IsDate n × HasJulianDay j n
julian_day-some j h =
    let low = h.not_before in
    let high = h.not_after in
    (unsigned_abs (j -ℤ first_julian_day), omega (arith, ints), omega (arith, ints))

-- an item taken from the front of a list, and from its back
pub first-taken : (front old new rest : List ℕ) (d : ℕ) → old ≡ d ∷ new → (front ++ d ∷ []) ++ (new ++ rest) ≡ front ++ (old ++ rest)
first-taken front old new rest d e = append_assoc front (d ∷ []) (new ++ rest) ∙ ap (λ days. front ++ (days ++ rest)) (sym e)

pub last-taken : (front back old new : List ℕ) (d : ℕ) → old ≡ new ++ d ∷ [] → front ++ (new ++ reverse (back ++ d ∷ [])) ≡ front ++ (old ++ reverse back)
last-taken front back old new d e =
    ap (λ days. front ++ days)
    (ap (λ days. new ++ days) (reverse-append back (d ∷ [])) ∙ sym (append_assoc new (d ∷ []) (reverse back)) ∙ ap (λ days. days ++ reverse back) (sym e))

pub ruleset taken = (first-taken, last-taken)

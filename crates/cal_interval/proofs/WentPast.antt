-- What the scanners of an interval went past.
use Rattle.std.proofs.Common.{◌≡◌, ℕ, ◌≤◌, List, [], ◌∷◌, ◌++◌, length, refl, sym, ap, subst, ◌∙◌, arith, false, Some, None}
use Rattle.std.proofs.lemmas.List.{length-append}
use Rattle.std.specs.Prelude.{IfNone, IfSome, Option}
use Rattle.cal_text.specs.Shape.{Branch, GoesPast, Shape, UpTo, unmatched_bytes}
use Rattle.cal_text.proofs.Parts.{at_end}
use Rattle.cal_duration.specs.declared.numbers.DateNumbers.{DateNumbers}
use Rattle.cal_duration.specs.declared.numbers.TimeNumbers.{TimeNumbers}
use Rattle.cal_duration.specs.declared.numbers.Numbers.{Numbers}
use Rattle.cal_duration.specs.Form.{HasBody, IsNumber}
use Rattle.cal_duration.specs.DurationShape.{ScansOptional}
use Rattle.cal_interval.specs.Form.{HasParts, HasRepeated, IsCount, IsUnsigned}

pub shorter : (Is : List ℕ → Type 0) (old new : List ℕ) → GoesPast Is old new → length new ≤ length old
shorter Is old new h = omega (arith, ap length h.bytes_are, length-append h.front new)

-- a period after its letter
pub unsigned_past : (d : DateNumbers) (t : TimeNumbers) (old new : List ℕ) → GoesPast (λ bytes. HasBody bytes d t) old new
    → GoesPast (λ bytes. IsUnsigned (80 ∷ bytes) (record { is_negative = false; date = d; time = t })) old new
unsigned_past d t old new h = record { front = h.front; is = (record { rest = h.front; has_body = h.is; bytes_are = refl }, refl); bytes_are = h.bytes_are }

pub whole_period : (m : Numbers) (old mid new : List ℕ) → old ≡ 80 ∷ mid → GoesPast (λ bytes. IsUnsigned (80 ∷ bytes) m) mid new → new ≡ [] → IsUnsigned old m
whole_period m old mid new byte h end = subst (λ all. IsUnsigned all m) (sym (byte ∙ ap (λ r. 80 ∷ r) (at_end mid h.front new h.bytes_are end))) h.is

pub period_first : {V : Type 0} (Has : List ℕ → V → Type 0) (m : Numbers) (v : V) (old mid next rest new : List ℕ) → old ≡ 80 ∷ mid → GoesPast (λ bytes. IsUnsigned (80 ∷ bytes) m) mid next
    → next ≡ 47 ∷ rest → GoesPast (λ bytes. Has bytes v) rest new → new ≡ [] → HasParts IsUnsigned Has old m v
period_first Has m v old mid next rest new byte period slash last end = record {
  front = 80 ∷ period.front;
  back = last.front;
  first = period.is;
  second = last.is;
  bytes_are = byte ∙ ap (λ r. 80 ∷ r) (period.bytes_are ∙ ap (λ r. period.front ++ r) (slash ∙ ap (λ r. 47 ∷ r) (at_end rest last.front new last.bytes_are end)));
}

pub after_start : {V W : Type 0} (Has : List ℕ → V → Type 0) (Is : List ℕ → W → Type 0) (v : V) (w : W) (old mid rest : List ℕ) → GoesPast (λ bytes. Has bytes v) old mid → mid ≡ 47 ∷ rest
    → ((front : List ℕ) → Has front v → Is (front ++ 47 ∷ rest) w) → Is old w
after_start Has Is v w old mid rest start slash h = subst (λ all. Is all w) (sym (start.bytes_are ∙ ap (λ r. start.front ++ r) slash)) (h start.front start.is)

-- ---- a number of occurrences, or none
pub one_shape : (r : Option ℕ) (old new : List ℕ) → ScansOptional old new r → (more : ℕ) → length old ≤ more → (f : Shape) → unmatched_bytes (Branch 48 9 (UpTo more f) f) old ≡ unmatched_bytes f new
one_shape (Some n) old new h more few f = h more few f f
one_shape None old new h more few f = h more few f f

pub count_past : (r : Option ℕ) (old new : List ℕ) → IfSome r (λ n. GoesPast (λ digits. IsNumber digits n) old new) → IfNone r (new ≡ old) → GoesPast (λ digits. IsCount digits r) old new
count_past (Some n) old new h kept = h
count_past None old new h kept = record { front = []; is = refl; bytes_are = sym kept }

pub put_repeated : {M : Type 0} (Has : List ℕ → M → Type 0) (r : Option ℕ) (m : M) (old mid next rest : List ℕ) → old ≡ 82 ∷ mid → GoesPast (λ digits. IsCount digits r) mid next → next ≡ 47 ∷ rest → Has rest m
    → HasRepeated Has old (r, m)
put_repeated Has r m old mid next rest byte count slash h = record {
  digits = count.front;
  interval = rest;
  is_count = count.is;
  has_interval = h;
  bytes_are = byte ∙ ap (λ b. 82 ∷ b) (count.bytes_are ∙ ap (λ b. count.front ++ b) slash);
}

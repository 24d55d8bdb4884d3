-- The shapes of intervals, whatever their ends are.
use Rattle.std.proofs.Common.{◌≡◌, ℕ, ◌≤◌, ◌⊎◌, inl, inr, false, List, [], ◌∷◌, ◌++◌, length, Option, Some, None, refl, sym, ap, ◌∙◌, arith}
use Rattle.std.proofs.lemmas.List.{length-append}
use Rattle.cal_text.specs.Shape.{Shape, End}
use Rattle.cal_text.proofs.Forms.{IsLed, IsThen, IsEither}
use Rattle.cal_text.proofs.Positions.{IsShapeOf, AreShapesOf}
use Rattle.cal_duration.specs.declared.numbers.Numbers.{Numbers}
use Rattle.cal_duration.specs.Form.{sign_text}
use Rattle.cal_duration.proofs.Levels.{IsShort}
use Rattle.cal_duration.proofs.Shapes.{RawBody, IsShortBody, body_date, body_time, body_there, body_here}
use Rattle.cal_interval.specs.Form.{HasParts, HasRepeated, IsUnsigned}
use Rattle.cal_interval.specs.IntervalShape.{Interval, Repeated}

-- ---- a period without a sign
abbrev pub unsigned : RawBody → Numbers
unsigned b = record { is_negative = false; date = body_date b; time = body_time b }

unsigned_there : (more : ℕ) (bytes : List ℕ) (b : RawBody) → IsLed 80 (IsShortBody more) bytes b → IsUnsigned bytes (unsigned b)
unsigned_there more bytes b h = (record { rest = h.0; has_body = body_there more h.0 b h.1; bytes_are = h.2 }, refl)

unsigned_here : (more : ℕ) (bytes : List ℕ) (m : Numbers) → length bytes ≤ more → IsUnsigned bytes m → (b : RawBody) × IsLed 80 (IsShortBody more) bytes b × (unsigned b ≡ m)
unsigned_here more bytes m few h =
    let form = h.0 in
    let e : bytes ≡ 80 ∷ form.rest = form.bytes_are ∙ ap (λ b. sign_text b ++ 80 ∷ form.rest) h.1 in
    let b = body_here more form.rest m.date m.time (omega (arith, few, ap length e)) form.has_body in
    (b.0, (form.rest, b.1, e), λ i. record { is_negative = sym h.1 i; date = b.2 i; time = b.3 i })

-- ---- an interval
abbrev pub Ends : Type 0 → Type 0
Ends V = (Numbers × V) ⊎ (V × Numbers) ⊎ (V × V)

abbrev pub HasEnds : {V : Type 0} → (List ℕ → V → Type 0) → List ℕ → Ends V → Type 0
HasEnds Has bytes (inl v) = HasParts IsUnsigned Has bytes v.0 v.1
HasEnds Has bytes (inr (inl v)) = HasParts Has IsUnsigned bytes v.0 v.1
HasEnds Has bytes (inr (inr v)) = HasParts Has Has bytes v.0 v.1

abbrev pub Raw : Type 0 → Type 0
Raw V = (RawBody × V) ⊎ (V × (RawBody ⊎ V))

abbrev pub IsRaw : {V : Type 0} → (List ℕ → V → Type 0) → ℕ → List ℕ → Raw V → Type 0
IsRaw Has more = IsEither (IsLed 80 (IsThen (IsShortBody more) (IsLed 47 Has))) (IsThen Has (IsLed 47 (IsEither (IsLed 80 (IsShortBody more)) Has)))

into : {V : Type 0} → Raw V → Ends V
into (inl v) = inl (unsigned v.0, v.1)
into (inr (v, inl b)) = inr (inl (v, unsigned b))
into (inr (v, inr w)) = inr (inr (v, w))

there : {V : Type 0} (Has : List ℕ → V → Type 0) (more : ℕ) (bytes : List ℕ) (r : Raw V) → IsRaw Has more bytes r → HasEnds Has bytes (into r)
unfolding into
there Has more bytes (inl (b, v)) h =
    let parts = h.1 in
    record {
      front = 80 ∷ parts.front;
      back = parts.second.0;
      first = unsigned_there more (80 ∷ parts.front) b (parts.front, parts.first, refl);
      second = parts.second.1;
      bytes_are = h.2 ∙ ap (λ r. 80 ∷ r) (parts.bytes_are ∙ ap (λ r. parts.front ++ r) parts.second.2);
    }
there Has more bytes (inr (v, inl b)) h = record {
  front = h.front;
  back = h.second.0;
  first = h.first;
  second = unsigned_there more h.second.0 b h.second.1;
  bytes_are = h.bytes_are ∙ ap (λ r. h.front ++ r) h.second.2;
}
there Has more bytes (inr (v, inr w)) h = record {
  front = h.front;
  back = h.second.0;
  first = h.first;
  second = h.second.1;
  bytes_are = h.bytes_are ∙ ap (λ r. h.front ++ r) h.second.2;
}

abbrev RawOf : {V : Type 0} → (List ℕ → V → Type 0) → ℕ → List ℕ → Ends V → Type 0
RawOf {V} Has more bytes e = (r : Raw V) × IsRaw Has more bytes r × (into r ≡ e)

few_of : (more : ℕ) (bytes a b : List ℕ) → length bytes ≤ more → bytes ≡ a ++ 47 ∷ b → (length a ≤ more) × (length b ≤ more)
few_of more bytes a b few e = (omega (arith, few, ap length e, length-append a (47 ∷ b)), omega (arith, few, ap length e, length-append a (47 ∷ b)))

here : {V : Type 0} (Has : List ℕ → V → Type 0) (more : ℕ) (bytes : List ℕ) (e : Ends V) → length bytes ≤ more → HasEnds Has bytes e → RawOf Has more bytes e
unfolding into
here Has more bytes (inl (p, v)) few h =
    let sizes = few_of more bytes h.front h.back few h.bytes_are in
    let b = unsigned_here more h.front p sizes.0 h.first in (
      inl (b.0, v),
      (
        b.1.0 ++ 47 ∷ h.back,
        record { front = b.1.0; back = 47 ∷ h.back; first = b.1.1; second = (h.back, h.second, refl); bytes_are = refl },
        h.bytes_are ∙ ap (λ r. r ++ 47 ∷ h.back) b.1.2,
      ),
      ap (λ q. inl (q, v)) b.2,
    )
here Has more bytes (inr (inl (v, p))) few h =
    let sizes = few_of more bytes h.front h.back few h.bytes_are in
    let b = unsigned_here more h.back p sizes.1 h.second in (
      inr (v, inl b.0),
      record { front = h.front; back = 47 ∷ h.back; first = h.first; second = (h.back, b.1, refl); bytes_are = h.bytes_are },
      ap (λ q. inr (inl (v, q))) b.2,
    )
here Has more bytes (inr (inr (v, w))) few h = (
  inr (v, inr w),
  record { front = h.front; back = 47 ∷ h.back; first = h.first; second = (h.back, h.second, refl); bytes_are = h.bytes_are },
  refl,
)

-- from the ends to the numbers of an interval
pub interval_shape : {V M : Type 0} (Has : List ℕ → V → Type 0) (HasInterval : List ℕ → M → Type 0) (part : Shape → Shape) (to : Ends V → M) (from : M → Ends V)
    → ((m : M) → to (from m) ≡ m) → ((bytes : List ℕ) (e : Ends V) → HasEnds Has bytes e → HasInterval bytes (to e))
    → ((bytes : List ℕ) (m : M) → HasInterval bytes m → HasEnds Has bytes (from m))
    → ((more : ℕ) → IsShapeOf (IsRaw Has more) (Interval part more End)) → AreShapesOf HasInterval (λ more. Interval part more End)
interval_shape Has HasInterval part to from same forth back shapes = record {
  each = λ k bytes few (m, h). let r = here Has k bytes (from m) few (back bytes m h) in (shapes k).each bytes (r.0, r.1);
  only = λ k bytes e. let r = (shapes k).only bytes e in (to (into r.0), forth bytes (into r.0) (there Has k bytes r.0 r.1));
  one = λ bytes m n a b.
      let few : length bytes ≤ length bytes = omega arith in
      let r = here Has (length bytes) bytes (from m) few (back bytes m a) in
      let s = here Has (length bytes) bytes (from n) few (back bytes n b) in
      sym (same m) ∙ ap to (sym r.2 ∙ ap into ((shapes (length bytes)).one bytes r.0 s.0 r.1 s.1) ∙ s.2) ∙ same n;
}

-- ---- a repeated interval
abbrev pub RawRepeated : Type 0 → Type 0
RawRepeated V = (ℕ × Raw V) ⊎ Raw V

abbrev pub IsRawRepeated : {V : Type 0} → (List ℕ → V → Type 0) → ℕ → List ℕ → RawRepeated V → Type 0
IsRawRepeated Has more = IsLed 82 (IsEither (IsThen (IsShort more) (IsLed 47 (IsRaw Has more))) (IsLed 47 (IsRaw Has more)))

repeated_into : {V : Type 0} → RawRepeated V → Option ℕ × Ends V
repeated_into (inl (n, r)) = (Some n, into r)
repeated_into (inr r) = (None, into r)

repeated_there : {V : Type 0} (Has : List ℕ → V → Type 0) (more : ℕ) (bytes : List ℕ) (r : RawRepeated V) → IsRawRepeated Has more bytes r → HasRepeated (HasEnds Has) bytes (repeated_into r)
unfolding repeated_into
repeated_there Has more bytes (inl (n, r)) h =
    let parts = h.1 in
    record {
      digits = parts.front;
      interval = parts.second.0;
      is_count = record { all = parts.first.0.0; some = omega (arith, parts.first.0.1); value = parts.first.1 };
      has_interval = there Has more parts.second.0 r parts.second.1;
      bytes_are = h.2 ∙ ap (λ b. 82 ∷ b) (parts.bytes_are ∙ ap (λ b. parts.front ++ b) parts.second.2);
    }
repeated_there Has more bytes (inr r) h = record {
  digits = [];
  interval = h.1.0;
  is_count = refl;
  has_interval = there Has more h.1.0 r h.1.1;
  bytes_are = h.2 ∙ ap (λ b. 82 ∷ b) h.1.2;
}

abbrev RawRepeatedOf : {V : Type 0} → (List ℕ → V → Type 0) → ℕ → List ℕ → Option ℕ × Ends V → Type 0
RawRepeatedOf {V} Has more bytes e = (r : RawRepeated V) × IsRawRepeated Has more bytes r × (repeated_into r ≡ e)

repeated_here : {V : Type 0} (Has : List ℕ → V → Type 0) (more : ℕ) (bytes : List ℕ) (e : Option ℕ × Ends V) → length bytes ≤ more → HasRepeated (HasEnds Has) bytes e → RawRepeatedOf Has more bytes e
unfolding repeated_into
repeated_here Has more bytes (Some n, e) few h =
    let r = here Has more h.interval e (omega (arith, few, ap length h.bytes_are, length-append h.digits (47 ∷ h.interval))) h.has_interval in (
      inl (n, r.0),
      (
        h.digits ++ 47 ∷ h.interval,
        record {
          front = h.digits;
          back = 47 ∷ h.interval;
          first = ((h.is_count.all, omega (arith, h.is_count.some), omega (arith, few, ap length h.bytes_are, length-append h.digits (47 ∷ h.interval))), h.is_count.value);
          second = (h.interval, r.1, refl);
          bytes_are = refl;
        },
        h.bytes_are,
      ),
      ap (λ q. (Some n, q)) r.2,
    )
repeated_here Has more bytes (None, e) few h =
    let whole : bytes ≡ 82 ∷ 47 ∷ h.interval = h.bytes_are ∙ ap (λ ds. 82 ∷ (ds ++ 47 ∷ h.interval)) h.is_count in
    let r = here Has more h.interval e (omega (arith, few, ap length whole)) h.has_interval in
    (inr r.0, (47 ∷ h.interval, (h.interval, r.1, refl), whole), ap (λ q. (None, q)) r.2)

mapped : {M V : Type 0} (f : M → V) → Option ℕ × M → Option ℕ × V
mapped f m = (m.0, f m.1)

pub repeated_shape : {V M : Type 0} (Has : List ℕ → V → Type 0) (HasInterval : List ℕ → M → Type 0) (part : Shape → Shape) (to : Ends V → M) (from : M → Ends V)
    → ((m : M) → to (from m) ≡ m) → ((bytes : List ℕ) (e : Ends V) → HasEnds Has bytes e → HasInterval bytes (to e))
    → ((bytes : List ℕ) (m : M) → HasInterval bytes m → HasEnds Has bytes (from m))
    → ((more : ℕ) → IsShapeOf (IsRawRepeated Has more) (Repeated part more End)) → AreShapesOf (HasRepeated HasInterval) (λ more. Repeated part more End)
unfolding mapped
repeated_shape {V} {M} Has HasInterval part to from same forth back shapes = record {
  each = λ k bytes few (m, h). let r = repeated_here Has k bytes (mapped from m) few (lower bytes m h) in (shapes k).each bytes (r.0, r.1);
  only = λ k bytes e. let r = (shapes k).only bytes e in (mapped to (repeated_into r.0), raise bytes (repeated_into r.0) (repeated_there Has k bytes r.0 r.1));
  one = λ bytes m n a b.
      let few : length bytes ≤ length bytes = omega arith in
      let r = repeated_here Has (length bytes) bytes (mapped from m) few (lower bytes m a) in
      let s = repeated_here Has (length bytes) bytes (mapped from n) few (lower bytes n b) in
      sym (again m) ∙ ap (mapped to) (sym r.2 ∙ ap repeated_into ((shapes (length bytes)).one bytes r.0 s.0 r.1 s.1) ∙ s.2) ∙ again n;
}
  where
    again : (m : Option ℕ × M) → mapped to (mapped from m) ≡ m
    again m = ap (λ x. (m.0, x)) (same m.1)

    lower : (bytes : List ℕ) (m : Option ℕ × M) → HasRepeated HasInterval bytes m → HasRepeated (HasEnds Has) bytes (mapped from m)
    lower bytes m h = record { digits = h.digits; interval = h.interval; is_count = h.is_count; has_interval = back h.interval m.1 h.has_interval; bytes_are = h.bytes_are }

    raise : (bytes : List ℕ) (e : Option ℕ × Ends V) → HasRepeated (HasEnds Has) bytes e → HasRepeated HasInterval bytes (mapped to e)
    raise bytes e h = record { digits = h.digits; interval = h.interval; is_count = h.is_count; has_interval = forth h.interval e.1 h.has_interval; bytes_are = h.bytes_are }

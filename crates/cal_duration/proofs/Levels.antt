-- Numbers with letters, each of which may be left out, as forms: the letter after a number decides
-- which one it is.
use Rattle.std.proofs.Common.{◌≡◌, ℕ, ◌-◌, ◌<◌, ◌^◌, ◌⊎◌, inl, inr, Bool, ◌&&◌, List, [], ◌∷◌, ◌++◌, length, refl, sym, ap, subst, ◌∙◌, arith}
use Rattle.std.specs.Prelude.{min}
use Rattle.std.specs.Str.Parse.{digits_value}
use Rattle.std.proofs.lemmas.List.{append_assoc, length-append}
use Rattle.cal_text.specs.Shape.{Shape, ByteRange, Branch, UpTo}
use Rattle.cal_text.proofs.DigitForms.{IsRun, run}
use Rattle.cal_text.proofs.Forms.{IsForm, IsNothing, IsLed, IsThen, IsEither, always, avoids, nothing, led, both, either, retold}

-- ---- a number of at most more + 1 digits
abbrev pub number_value : List ℕ → ℕ
number_value digits = min (digits_value 10 digits) (2 ^ 64 - 1)

abbrev pub IsShort : ℕ → List ℕ → ℕ → Type 0
IsShort more bytes n = IsRun 1 more number_value bytes n

-- a number and its letter, or nothing
abbrev pub IsShortPart : ℕ → ℕ → List ℕ → ℕ → Type 0
IsShortPart more letter bytes n = ((bytes ≡ []) × (n ≡ 0)) ⊎ ((digits : List ℕ) × IsShort more digits n × (bytes ≡ digits ++ letter ∷ []))

-- ---- the parts from a letter on, which may be left out, by what comes after the digits of the first
abbrev pub IsChoice : {A : Type 0} → ℕ → (List ℕ → A → Type 0) → List ℕ → (ℕ × A) ⊎ Unit {0} → Type 0
IsChoice more IsAfter = IsEither (IsThen (IsShort more) IsAfter) IsNothing

pub record Level {A V : Type 0} (more : ℕ) (after : Shape → Shape) (IsAfter : List ℕ → A → Type 0) (Has : List ℕ → V → Type 0) (follows : Shape → Bool) : Type 0 where
  pub form : IsForm after IsAfter follows
  pub into : (ℕ × A) ⊎ Unit {0} → V
  pub there : (bytes : List ℕ) (c : (ℕ × A) ⊎ Unit {0}) → IsChoice more IsAfter bytes c → Has bytes (into c)
  pub here : (bytes : List ℕ) (v : V) → Has bytes v → (c : (ℕ × A) ⊎ Unit {0}) × IsChoice more IsAfter bytes c × (into c ≡ v)

pub any : {A V : Type 0} {more : ℕ} {after : Shape → Shape} {IsAfter : List ℕ → A → Type 0} {Has : List ℕ → V → Type 0} {follows : Shape → Bool}
    → Level more after IsAfter Has follows
    → IsForm (λ f. Branch 48 9 (UpTo more (after f)) f) Has (λ f. (avoids 48 9 (after f) && follows f) && (always f && avoids 48 9 f))
any {A} {V} {more} {after} {IsAfter} {Has} l = retold Has (either 48 9 (both (run 1 more number_value) l.form) nothing) l.into l.there l.here

-- at least one of them
abbrev pub IsSome : {V : Type 0} → (List ℕ → V → Type 0) → List ℕ → V → Type 0
IsSome Has bytes v = Has bytes v × (0 < length bytes)

pub some : {A V : Type 0} {more : ℕ} {after : Shape → Shape} {IsAfter : List ℕ → A → Type 0} {Has : List ℕ → V → Type 0} {follows : Shape → Bool}
    → Level more after IsAfter Has follows → IsForm (λ f. ByteRange 48 9 (UpTo more (after f))) (IsSome Has) (λ f. avoids 48 9 (after f) && follows f)
some {A} {V} {more} {after} {IsAfter} {Has} l = retold (IsSome Has) (both (run 1 more number_value) l.form) (λ r. l.into (inl r)) there here
  where
    there : (bytes : List ℕ) (r : ℕ × A) → IsThen (IsShort more) IsAfter bytes r → IsSome Has bytes (l.into (inl r))
    there bytes r h = (l.there bytes (inl r) h, omega (arith, h.first.0.1, ap length h.bytes_are, length-append h.front h.back))

    here : (bytes : List ℕ) (v : V) → IsSome Has bytes v → (r : ℕ × A) × IsThen (IsShort more) IsAfter bytes r × (l.into (inl r) ≡ v)
    here bytes v h = at (l.here bytes v h.0)
      where
        at : (c : (ℕ × A) ⊎ Unit {0}) × IsChoice more IsAfter bytes c × (l.into c ≡ v) → (r : ℕ × A) × IsThen (IsShort more) IsAfter bytes r × (l.into (inl r) ≡ v)
        at (inl r, is, e) = (r, is, e)
        at (inr u, is, e) = absurd (omega (arith, h.1, ap length is))

-- ---- one letter more before them
pub step : {A V : Type 0} {more : ℕ} {after : Shape → Shape} {IsAfter : List ℕ → A → Type 0} {Has : List ℕ → V → Type 0} {follows : Shape → Bool} (letter : ℕ)
    → Level more after IsAfter Has follows
    → Level more (λ f. Branch letter 0 (Branch 48 9 (UpTo more (after f)) f) (after f)) (IsEither (IsLed letter Has) IsAfter) (IsThen (IsShortPart more letter) Has)
    (λ f. ((avoids 48 9 (after f) && follows f) && (always f && avoids 48 9 f)) && (follows f && avoids letter 0 (after f)))
step {A} {V} {more} {after} {IsAfter} {Has} letter l = record { form = either letter 0 (led letter (any l)) l.form; into = into; there = there; here = here }
  where
    Choice : Type 0
    Choice = (ℕ × (V ⊎ A)) ⊎ Unit {0}

    Is : List ℕ → Choice → Type 0
    Is = IsChoice more (IsEither (IsLed letter Has) IsAfter)

    into : Choice → ℕ × V
    into (inl (n, inl v)) = (n, v)
    into (inl (n, inr a)) = (0, l.into (inl (n, a)))
    into (inr u) = (0, l.into (inr u))

    without : (bytes : List ℕ) (v : V) → Has bytes v → IsThen (IsShortPart more letter) Has bytes (0, v)
    without bytes v h = record { front = []; back = bytes; first = inl (refl, refl); second = h; bytes_are = refl }

    there : (bytes : List ℕ) (c : Choice) → Is bytes c → IsThen (IsShortPart more letter) Has bytes (into c)
    there bytes (inl (n, inl v)) h = record {
      front = h.front ++ letter ∷ [];
      back = h.second.0;
      first = inr (h.front, h.first, refl);
      second = h.second.1;
      bytes_are = h.bytes_are ∙ ap (λ r. h.front ++ r) h.second.2 ∙ sym (append_assoc h.front (letter ∷ []) h.second.0);
    }
    there bytes (inl (n, inr a)) h =
        without bytes (l.into (inl (n, a))) (l.there bytes (inl (n, a)) (record { front = h.front; back = h.back; first = h.first; second = h.second; bytes_are = h.bytes_are }))
    there bytes (inr u) h = without bytes (l.into (inr u)) (l.there bytes (inr u) h)

    later : (bytes : List ℕ) (v : V) → (c : (ℕ × A) ⊎ Unit {0}) × IsChoice more IsAfter bytes c × (l.into c ≡ v) → (c : Choice) × Is bytes c × (into c ≡ (0, v))
    later bytes v (inl (n, a), is, e) =
        (inl (n, inr a), record { front = is.front; back = is.back; first = is.first; second = is.second; bytes_are = is.bytes_are }, ap (λ w. (0, w)) e)
    later bytes v (inr u, is, e) = (inr u, is, ap (λ w. (0, w)) e)

    here : (bytes : List ℕ) (v : ℕ × V) → IsThen (IsShortPart more letter) Has bytes v → (c : Choice) × Is bytes c × (into c ≡ v)
    here bytes (n, v) h = at h.first
      where
        at : IsShortPart more letter h.front n → (c : Choice) × Is bytes c × (into c ≡ (n, v))
        at (inl none) =
            let whole : bytes ≡ h.back = h.bytes_are ∙ ap (λ r. r ++ h.back) none.0 in
            let found = later bytes v (l.here bytes v (subst (λ b. Has b v) (sym whole) h.second)) in
            (found.0, found.1, found.2 ∙ ap (λ m. let p : ℕ × V = (m, v) in p) (sym none.1))
        at (inr (digits, is, e)) = (
          inl (n, inl v),
          record { front = digits; back = letter ∷ h.back; first = is; second = (h.back, h.second, refl); bytes_are = h.bytes_are ∙ ap (λ r. r ++ h.back) e ∙ append_assoc digits (letter ∷ []) h.back },
          refl,
        )

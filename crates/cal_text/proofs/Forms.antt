-- Forms: the texts of a part of a shape, each with one value, and how parts are put together.
use Rattle.std.proofs.Common.{◌≡◌, ℕ, ◌+◌, ◌⊎◌, inl, inr, Bool, true, false, IsTrue, ◌&&◌, ◌||◌, nat_lt, List, [], ◌∷◌, ◌++◌, refl, sym, ap, subst, ◌∙◌, arith}
use Rattle.std.proofs.lemmas.Bool.Decides.{nat_tests}
use Rattle.std.proofs.lemmas.List.{append_assoc, append-nil}
use Rattle.cal_text.specs.Shape.{Shape, End, ByteRange, Branch, Byte, unmatched_bytes}
use Rattle.cal_text.proofs.Parts.{BeginsOutside, unmatched_bytes-outside, taken, chosen, clashing, done_then, at_end, same_pair}
use Rattle.cal_text.proofs.Positions.{IsShapeOf}
use Rattle.cal_text.proofs.Stops.{IsIn, in_or_out, unmatched_bytes-in, unmatched_bytes-out, unmatched_bytes-end, unmatched_bytes-branch_out, unmatched_bytes-done, unmatched_bytes-more}

-- The bytes are a text of a value, and then come bytes of the shape f.
pub record Divides {V : Type 0} (Has : List ℕ → V → Type 0) (f : Shape) (bytes : List ℕ) : Type 0 where
  pub value : V
  pub front : List ℕ
  pub rest : List ℕ
  pub is : Has front value
  pub bytes_are : bytes ≡ front ++ rest
  pub next : unmatched_bytes f rest ≡ 0

-- The part describes exactly the texts of the form, and each has one value and one end, before any
-- shape that may follow.
pub record IsForm {V : Type 0} (part : Shape → Shape) (Has : List ℕ → V → Type 0) (follows : Shape → Bool) : Type 0 where
  pub each : (f : Shape) (v : V) (front rest : List ℕ) → IsTrue (follows f) → Has front v → unmatched_bytes f rest ≡ 0 → unmatched_bytes (part f) (front ++ rest) ≡ 0
  pub only : (f : Shape) (bytes : List ℕ) → unmatched_bytes (part f) bytes ≡ 0 → Divides Has f bytes
  pub one : (f : Shape) (v w : V) (a b r s : List ℕ) → IsTrue (follows f) → Has a v → Has b w → unmatched_bytes f r ≡ 0 → unmatched_bytes f s ≡ 0
      → a ++ r ≡ b ++ s → (v ≡ w) × (a ≡ b) × (r ≡ s)

-- ---- what may follow
abbrev pub always : Shape → Bool
always f = true

-- No text of the shape begins with a byte from `low` to `low + above`.
abbrev pub avoids : ℕ → ℕ → Shape → Bool
avoids low above End = true
avoids low above (ByteRange l a f) = nat_lt (low + above) l || nat_lt (l + a) low
avoids low above (Branch l a f g) = (nat_lt (low + above) l || nat_lt (l + a) low) && avoids low above g

pub first_true : (a b : Bool) → IsTrue (a && b) → IsTrue a
first_true true b h = refl
first_true false b h = absurd cc

pub second_true : (a b : Bool) → IsTrue (a && b) → IsTrue b
second_true true b h = h
second_true false b h = absurd cc

pub twice : (a : Bool) → IsTrue a → IsTrue (a && (a && true))
twice true h = refl
twice false h = absurd cc

distinct : (low above l a x : ℕ) → IsTrue (nat_lt (low + above) l || nat_lt (l + a) low) → IsIn l a x → ¬ IsIn low above x
distinct low above l a x h here there = let a1 = here.0 in let a2 = here.1 in let b1 = there.0 in let b2 = there.1 in grind (arith, nat_tests)

pub avoided : (low above : ℕ) (f : Shape) (bytes : List ℕ) → IsTrue (avoids low above f) → unmatched_bytes f bytes ≡ 0 → BeginsOutside low above bytes
avoided low above f [] h e x xs same here = absurd cc
avoided low above End (y ∷ ys) h e x xs same here = absurd (omega (arith, e, unmatched_bytes-more y ys))
avoided low above (ByteRange l a f) (y ∷ ys) h e x xs same here =
    let first : x ≡ y = cc in
    elim (in_or_out l a y) [
      | inl inside ↦ distinct low above l a y h inside (subst (IsIn low above) first here)
      | inr out ↦ absurd (omega (arith, e, unmatched_bytes-out l a f y ys out))
    ]
avoided low above (Branch l a f g) (y ∷ ys) h e x xs same here =
    let first : x ≡ y = cc in
    elim (in_or_out l a y) [
      | inl inside ↦ distinct low above l a y (first_true _ _ h) inside (subst (IsIn low above) first here)
      | inr out ↦ avoided low above g (y ∷ ys) (second_true _ _ h) (sym (unmatched_bytes-branch_out l a f g y ys out) ∙ e) x xs same here
    ]

-- ---- parts
-- nothing
abbrev pub IsNothing : List ℕ → Unit {0} → Type 0
IsNothing bytes u = bytes ≡ []

pub nothing : IsForm (λ f. f) IsNothing always
nothing = record {
  each = λ f v front rest _ h e. ap (λ all. unmatched_bytes f (all ++ rest)) h ∙ e;
  only = λ f bytes e. record { value = tt; front = []; rest = bytes; is = refl; bytes_are = refl; next = e };
  one = λ f v w a b r s _ h k _ _ e. (refl, h ∙ sym k, ap (λ x. x ++ r) (sym h) ∙ e ∙ ap (λ x. x ++ s) k);
}

-- a byte from a range
abbrev pub IsByteFrom : ℕ → ℕ → List ℕ → ℕ → Type 0
IsByteFrom low above bytes b = IsIn low above b × (bytes ≡ b ∷ [])

ranged : (low above : ℕ) (f : Shape) (bytes : List ℕ) → unmatched_bytes (ByteRange low above f) bytes ≡ 0 → Divides (IsByteFrom low above) f bytes
ranged low above f [] e = absurd (omega (arith, e, unmatched_bytes-end low above f))
ranged low above f (x ∷ xs) e =
    elim (in_or_out low above x) as (λ _. Divides (IsByteFrom low above) f (x ∷ xs)) [
      | inl here ↦ record { value = x; front = x ∷ []; rest = xs; is = (here, refl); bytes_are = refl; next = sym (unmatched_bytes-in low above f x xs here) ∙ e }
      | inr out ↦ absurd (omega (arith, e, unmatched_bytes-out low above f x xs out))
    ]

one_first : (x y : ℕ) (a b r s : List ℕ) → a ≡ x ∷ [] → b ≡ y ∷ [] → a ++ r ≡ b ++ s → (x ≡ y) × (a ≡ b) × (r ≡ s)
one_first x y a b r s h k e =
    let all : x ∷ r ≡ y ∷ s = ap (λ ds. ds ++ r) (sym h) ∙ e ∙ ap (λ ds. ds ++ s) k in
    let first : x ≡ y = cc in
    (first, h ∙ ap (λ z. z ∷ []) first ∙ sym k, cc)

pub byte_from : (low above : ℕ) → IsForm (ByteRange low above) (IsByteFrom low above) always
byte_from low above = record {
  each = λ f v front rest _ h e. ap (λ all. unmatched_bytes (ByteRange low above f) (all ++ rest)) h.1 ∙ unmatched_bytes-in low above f v rest h.0 ∙ e;
  only = ranged low above;
  one = λ f v w a b r s _ h k _ _ e. one_first v w a b r s h.1 k.1 e;
}

-- ---- one part after the other
pub record IsThen {V W : Type 0} (Has : List ℕ → V → Type 0) (Has' : List ℕ → W → Type 0) (bytes : List ℕ) (v : V × W) : Type 0 where
  pub front : List ℕ
  pub back : List ℕ
  pub first : Has front v.0
  pub second : Has' back v.1
  pub bytes_are : bytes ≡ front ++ back

-- the bytes of parts, as they are written
pub put : {bytes a b c d : List ℕ} → bytes ≡ a ++ b → a ≡ c → b ≡ d → bytes ≡ c ++ d
put {b} {c} e f g = e ∙ ap (λ x. x ++ b) f ∙ ap (λ x. c ++ x) g

pub both : {V W : Type 0} {part : Shape → Shape} {Has : List ℕ → V → Type 0} {follows : Shape → Bool} {part' : Shape → Shape} {Has' : List ℕ → W → Type 0} {follows' : Shape → Bool}
    → IsForm part Has follows → IsForm part' Has' follows' → IsForm (λ f. part (part' f)) (IsThen Has Has') (λ f. follows (part' f) && follows' f)
both {V} {W} {part} {Has} {follows} {part'} {Has'} {follows'} p q = record {
  each = λ f v front rest can h e.
      ap (λ all. unmatched_bytes (part (part' f)) (all ++ rest)) h.bytes_are ∙ ap (unmatched_bytes (part (part' f))) (append_assoc h.front h.back rest)
      ∙ p.each (part' f) v.0 h.front (h.back ++ rest) (first_true _ _ can) h.first (q.each f v.1 h.back rest (second_true _ _ can) h.second e);
  only = λ f bytes e.
      let a = p.only (part' f) bytes e in
      let b = q.only f a.rest a.next in
      record {
        value = (a.value, b.value);
        front = a.front ++ b.front;
        rest = b.rest;
        is = record { front = a.front; back = b.front; first = a.is; second = b.is; bytes_are = refl };
        bytes_are = a.bytes_are ∙ ap (λ rest. a.front ++ rest) b.bytes_are ∙ sym (append_assoc a.front b.front b.rest);
        next = b.next;
      };
  one = λ f v w a b r s can h k er es e.
      let split : h.front ++ (h.back ++ r) ≡ k.front ++ (k.back ++ s) =
      sym (append_assoc h.front h.back r) ∙ ap (λ all. all ++ r) (sym h.bytes_are) ∙ e ∙ ap (λ all. all ++ s) k.bytes_are ∙ append_assoc k.front k.back s in
      let first = p.one (part' f) v.0 w.0 h.front k.front (h.back ++ r) (k.back ++ s) (first_true _ _ can) h.first k.first
      (q.each f v.1 h.back r (second_true _ _ can) h.second er) (q.each f w.1 k.back s (second_true _ _ can) k.second es) split in
      let second = q.one f v.1 w.1 h.back k.back r s (second_true _ _ can) h.second k.second er es first.2 in (
        same_pair V W v w first.0 second.0,
        h.bytes_are ∙ ap (λ x. x ++ h.back) first.1 ∙ ap (λ x. k.front ++ x) second.1 ∙ sym k.bytes_are,
        second.2,
      );
}

-- ---- the same part with other values
pub retold : {V W : Type 0} {part : Shape → Shape} {Has : List ℕ → V → Type 0} {follows : Shape → Bool} (Has' : List ℕ → W → Type 0) → IsForm part Has follows → (into : V → W)
    → ((bytes : List ℕ) (v : V) → Has bytes v → Has' bytes (into v)) → ((bytes : List ℕ) (w : W) → Has' bytes w → (v : V) × Has bytes v × (into v ≡ w)) → IsForm part Has' follows
retold Has' p into there here = record {
  each = λ f w front rest can h e. let v = here front w h in p.each f v.0 front rest can v.1 e;
  only = λ f bytes e.
      let a = p.only f bytes e in
      record { value = into a.value; front = a.front; rest = a.rest; is = there a.front a.value a.is; bytes_are = a.bytes_are; next = a.next };
  one = λ f u w a b r s can hu hw er es e.
      let v = here a u hu in
      let x = here b w hw in
      let found = p.one f v.0 x.0 a b r s can v.1 x.1 er es e in
      (sym v.2 ∙ ap into found.0 ∙ x.2, found.1, found.2);
}

-- the same part before less
pub weakened : {V : Type 0} {part : Shape → Shape} {Has : List ℕ → V → Type 0} {follows : Shape → Bool} (follows' : Shape → Bool) → IsForm part Has follows
    → ((f : Shape) → IsTrue (follows' f) → IsTrue (follows f)) → IsForm part Has follows'
weakened follows' p less = record {
  each = λ f v front rest can h e. p.each f v front rest (less f can) h e;
  only = p.only;
  one = λ f v w a b r s can h k er es e. p.one f v w a b r s (less f can) h k er es e;
}

-- a byte, and then a part
abbrev pub IsLed : {V : Type 0} → ℕ → (List ℕ → V → Type 0) → List ℕ → V → Type 0
IsLed b Has bytes v = (back : List ℕ) × Has back v × (bytes ≡ b ∷ back)

pub led : {V : Type 0} {part : Shape → Shape} {Has : List ℕ → V → Type 0} {follows : Shape → Bool} (b : ℕ) → IsForm part Has follows → IsForm (λ f. Byte b (part f)) (IsLed b Has) follows
led {V} {part} {Has} {follows} b p = retold (IsLed b Has) (both (byte_from b 0) p) (λ v. v.1)
    (λ bytes v h. (h.back, h.second, h.bytes_are ∙ ap (λ ds. ds ++ h.back) (byte_is b v.0 h.front h.first)))
    (λ bytes v h. ((b, v), record { front = b ∷ []; back = h.0; first = ((omega arith, omega arith), refl); second = h.1; bytes_are = h.2 }, refl))
  where
    byte_is : (b x : ℕ) (bytes : List ℕ) → IsByteFrom b 0 bytes x → bytes ≡ b ∷ []
    byte_is b x bytes h = let same : x ≡ b = omega (arith, h.0.0, h.0.1) in h.1 ∙ ap (λ y. y ∷ []) same

-- ---- either part, by the first byte
abbrev pub IsEither : {V W : Type 0} → (List ℕ → V → Type 0) → (List ℕ → W → Type 0) → List ℕ → V ⊎ W → Type 0
IsEither Has Has' bytes (inl v) = Has bytes v
IsEither Has Has' bytes (inr w) = Has' bytes w

pub either : {V W : Type 0} (low above : ℕ) {part : Shape → Shape} {Has : List ℕ → V → Type 0} {follows : Shape → Bool} {part' : Shape → Shape} {Has' : List ℕ → W → Type 0} {follows' : Shape → Bool}
    → IsForm (λ f. ByteRange low above (part f)) Has follows → IsForm part' Has' follows'
    → IsForm (λ f. Branch low above (part f) (part' f)) (IsEither Has Has') (λ f. follows f && (follows' f && avoids low above (part' f)))
either {V} {W} low above {part} {Has} {follows} {part'} {Has'} {follows'} p q = record { each = each; only = only; one = one }
  where
    Can : Shape → Type 0
    Can f = IsTrue (follows f && (follows' f && avoids low above (part' f)))

    can_first : (f : Shape) → Can f → IsTrue (follows f)
    can_first f h = first_true (follows f) (follows' f && avoids low above (part' f)) h

    others : (f : Shape) → Can f → IsTrue (follows' f && avoids low above (part' f))
    others f h = second_true (follows f) (follows' f && avoids low above (part' f)) h

    can_second : (f : Shape) → Can f → IsTrue (follows' f)
    can_second f h = first_true (follows' f) (avoids low above (part' f)) (others f h)

    outside : (f : Shape) (w : W) (front rest : List ℕ) → Can f → Has' front w → unmatched_bytes f rest ≡ 0 → BeginsOutside low above (front ++ rest)
    outside f w front rest can h e =
        avoided low above (part' f) (front ++ rest) (second_true (follows' f) (avoids low above (part' f)) (others f can)) (q.each f w front rest (can_second f can) h e)

    each : (f : Shape) (v : V ⊎ W) (front rest : List ℕ) → Can f → IsEither Has Has' front v → unmatched_bytes f rest ≡ 0 → unmatched_bytes (Branch low above (part f) (part' f)) (front ++ rest) ≡ 0
    each f (inl v) front rest can h e = taken low above (part f) (part' f) (front ++ rest) (p.each f v front rest (can_first f can) h e)
    each f (inr w) front rest can h e = unmatched_bytes-outside low above (part f) (part' f) (front ++ rest) (outside f w front rest can h e) ∙ q.each f w front rest (can_second f can) h e

    only : (f : Shape) (bytes : List ℕ) → unmatched_bytes (Branch low above (part f) (part' f)) bytes ≡ 0 → Divides (IsEither Has Has') f bytes
    only f bytes e = elim (chosen low above (part f) (part' f) bytes e) as (λ _. Divides (IsEither Has Has') f bytes) [
      | inl first ↦ let a = p.only f bytes first in record { value = inl a.value; front = a.front; rest = a.rest; is = a.is; bytes_are = a.bytes_are; next = a.next }
      | inr second ↦ let a = q.only f bytes second in record { value = inr a.value; front = a.front; rest = a.rest; is = a.is; bytes_are = a.bytes_are; next = a.next }
    ]

    never : (f : Shape) (v : V) (w : W) (a b r s : List ℕ) → Can f → Has a v → Has' b w → unmatched_bytes f r ≡ 0 → unmatched_bytes f s ≡ 0 → a ++ r ≡ b ++ s → ⊥
    never f v w a b r s can h k er es e =
        clashing low above (part f) (b ++ s) (outside f w b s can k es) (ap (unmatched_bytes (ByteRange low above (part f))) (sym e) ∙ p.each f v a r (can_first f can) h er)

    one : (f : Shape) (v w : V ⊎ W) (a b r s : List ℕ) → Can f → IsEither Has Has' a v → IsEither Has Has' b w → unmatched_bytes f r ≡ 0 → unmatched_bytes f s ≡ 0
        → a ++ r ≡ b ++ s → (v ≡ w) × (a ≡ b) × (r ≡ s)
    one f (inl v) (inl w) a b r s can h k er es e = let found = p.one f v w a b r s (can_first f can) h k er es e in (ap inl found.0, found.1, found.2)
    one f (inl v) (inr w) a b r s can h k er es e = absurd (never f v w a b r s can h k er es e)
    one f (inr v) (inl w) a b r s can h k er es e = absurd (never f w v b a s r can k h es er (sym e))
    one f (inr v) (inr w) a b r s can h k er es e = let found = q.one f v w a b r s (can_second f can) h k er es e in (ap inr found.0, found.1, found.2)

-- ---- a whole text
pub whole : {V : Type 0} {part : Shape → Shape} {Has : List ℕ → V → Type 0} {follows : Shape → Bool} → IsForm part Has follows → IsTrue (follows End) → IsShapeOf Has (part End)
whole {V} {part} {Has} {follows} p can = record {
  each = λ bytes (v, h). ap (unmatched_bytes (part End)) (sym (append-nil bytes)) ∙ p.each End v bytes [] can h unmatched_bytes-done;
  only = λ bytes e.
      let a = p.only End bytes e in
      (a.value, subst (λ all. Has all a.value) (sym (at_end bytes a.front a.rest a.bytes_are (done_then a.rest a.next))) a.is);
  one = λ bytes v w a b. (p.one End v w bytes bytes [] [] can a b unmatched_bytes-done unmatched_bytes-done refl).0;
}

-- the same with other values
pub renamed : {V W : Type 0} (Has : List ℕ → V → Type 0) (f : Shape) (Has' : List ℕ → W → Type 0) → IsShapeOf Has f → (into : V → W)
    → ((bytes : List ℕ) (v : V) → Has bytes v → Has' bytes (into v))
    → ((bytes : List ℕ) (w : W) → Has' bytes w → (v : V) × Has bytes v × (into v ≡ w)) → IsShapeOf Has' f
renamed Has f Has' p into there here = record {
  each = λ bytes (w, h). let v = here bytes w h in p.each bytes (v.0, v.1);
  only = λ bytes e. let found = p.only bytes e in (into found.0, there bytes found.0 found.1);
  one = λ bytes v w a b.
      let first = here bytes v a in
      let second = here bytes w b in
      sym first.2 ∙ ap into (p.one bytes first.0 second.0 first.1 second.1) ∙ second.2;
}

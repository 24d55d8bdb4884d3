-- A name at the front of a text has the shape of its table.
use Rattle.std.proofs.Common.{◌≡◌, ℕ, zero, suc, ◌+◌, ◌-◌, ◌≤◌, List, [], ◌∷◌, ◌++◌, length, take, drop, refl, sym, ap, ◌∙◌, arith, length-append, append_assoc, append-nil}
use Rattle.std.specs.Prelude.{Bool, true, false, Option, None, Some, IfNone, IfSome, slice_get, get_or, ◌==◌, ◌||◌, if◌then◌else◌}
use Rattle.std.proofs.lemmas.Option.{get_or_from_slice_get}
use Rattle.std.proofs.lemmas.Bool.{eq-eqb, eqb-true, false≢true, or_left, or_right}
use Rattle.std.proofs.lemmas.List.{take-append-drop, take_all, length-drop}
use Rattle.cal_text.specs.Shape.{Shape, Byte, Branch, Scans, unmatched_bytes}
use Rattle.cal_text.proofs.Stops.{unmatched_bytes-out, unmatched_bytes-end, unmatched_bytes-branch_in, unmatched_bytes-branch_out, unmatched_bytes-branch_end}
use Rattle.cal_names.specs.Names.{begins_with}
use Rattle.cal_names.specs.Apart.{any_begins, IsReach, NoneContinued}
use Rattle.cal_names.proofs.Fronts.{rest-is, begins-with_rest}
use Rattle.cal_names.specs.NameShape.{add_if, after, has_end, first_byte, Heads, Last, NamesShape, longest, TableShape}

abbrev IsAt : List (List ℕ) → ℕ → List ℕ → Type 0
IsAt names n x = slice_get names n ≡ Some x

-- A list is one of the names.
abbrev IsOne : List (List ℕ) → List ℕ → Type 0
IsOne names x = (n : ℕ) × IsAt names n x

-- ---- the names after a byte
at-after : (names : List (List ℕ)) (n x : ℕ) (xs : List ℕ) → IsAt names n (x ∷ xs) → IsOne (after x names) xs
at-after [] n x xs e = cc
at-after ([] ∷ names) zero x xs e = cc
at-after ([] ∷ names) (suc n) x xs e = at-after names n x xs e
at-after ((y ∷ ys) ∷ names) zero x xs e =
    let first : y ≡ x = cc in
    let rest : ys ≡ xs = cc in
    (0, ap (λ t. slice_get (add_if t ys (after x names)) 0) (eq-eqb y x first) ∙ ap Some rest)
at-after ((y ∷ ys) ∷ names) (suc n) x xs e = added (y == x) (at-after names n x xs e)
  where
    added : (t : Bool) → IsOne (after x names) xs → IsOne (add_if t ys (after x names)) xs
    added true h = (suc h.0, h.1)
    added false h = h

from-after : (names : List (List ℕ)) (x m : ℕ) (z : List ℕ) → IsAt (after x names) m z → IsOne names (x ∷ z)
from-after [] x m z e = cc
from-after ([] ∷ names) x m z e = let next = from-after names x m z e in (suc next.0, next.1)
from-after ((y ∷ ys) ∷ names) x m z e = tested (y == x) refl (λ k h. from-after names x k z h) m e
  where
    tested : (t : Bool) → (y == x) ≡ t → ((k : ℕ) → IsAt (after x names) k z → IsOne names (x ∷ z)) → (k : ℕ) → IsAt (add_if t ys (after x names)) k z → IsOne ((y ∷ ys) ∷ names) (x ∷ z)
    tested true same found zero at =
        let first = eqb-true y x same in
        let rest : ys ≡ z = cc in
        (0, λ i. Some (first i ∷ rest i))
    tested true same found (suc k) at = let next = found k at in (suc next.0, next.1)
    tested false same found k at = let next = found k at in (suc next.0, next.1)

-- ---- the names after bytes
abbrev pub afters : List ℕ → List (List ℕ) → List (List ℕ)
afters [] names = names
afters (b ∷ bytes) names = afters bytes (after b names)

at-afters : (p : List ℕ) (names : List (List ℕ)) (n : ℕ) (z : List ℕ) → IsAt names n (p ++ z) → IsOne (afters p names) z
at-afters [] names n z e = (n, e)
at-afters (b ∷ p) names n z e = let next = at-after names n b (p ++ z) e in at-afters p (after b names) next.0 z next.1

from-afters : (p : List ℕ) (names : List (List ℕ)) (m : ℕ) (z : List ℕ) → IsAt (afters p names) m z → IsOne names (p ++ z)
from-afters [] names m z e = (m, e)
from-afters (b ∷ p) names m z e = let next = from-afters p (after b names) m z e in from-after names b next.0 (p ++ z) next.1

-- No name goes on with the first byte of the rest.
abbrev pub IsStuck : List (List ℕ) → List ℕ → Type 0
IsStuck names [] = Unit {0}
IsStuck names (b ∷ rest) = (m : ℕ) (z : List ℕ) → slice_get (after b names) m ≡ Some z → ⊥

-- A name that goes on is one of the names.
more-of : (p : List ℕ) (names : List (List ℕ)) (b m : ℕ) (z : List ℕ) → IsAt (after b (afters p names)) m z → IsOne names (p ++ b ∷ z)
more-of p names b m z at = let next = from-after (afters p names) b m z at in from-afters p names next.0 (b ∷ z) next.1

-- ---- the shapes
heads-end : (names : List (List ℕ)) (step : ℕ → Shape) (none : Shape) → unmatched_bytes (Heads names step none) [] ≡ unmatched_bytes none []
unfolding Heads
heads-end [] step none = refl
heads-end ([] ∷ names) step none = heads-end names step none
heads-end ((x ∷ xs) ∷ names) step none = unmatched_bytes-branch_end x 0 (step x) (Heads names step none) ∙ heads-end names step none

heads-in : (names : List (List ℕ)) (step : ℕ → Shape) (none : Shape) (b : ℕ) (text : List ℕ) (m : ℕ) (z : List ℕ) → IsAt (after b names) m z
    → unmatched_bytes (Heads names step none) (b ∷ text) ≡ unmatched_bytes (step b) text
unfolding Heads
heads-in [] step none b text m z e = cc
heads-in ([] ∷ names) step none b text m z e = heads-in names step none b text m z e
heads-in ((x ∷ xs) ∷ names) step none b text m z e = tested (x == b) refl (λ at. heads-in names step none b text m z at) e
  where
    tested : (t : Bool) → (x == b) ≡ t → (IsAt (after b names) m z → unmatched_bytes (Heads names step none) (b ∷ text) ≡ unmatched_bytes (step b) text) → IsAt (add_if t xs (after b names)) m z
        → unmatched_bytes (Branch x 0 (step x) (Heads names step none)) (b ∷ text) ≡ unmatched_bytes (step b) text
    tested true same found at =
        let first = eqb-true x b same in
        unmatched_bytes-branch_in x 0 (step x) (Heads names step none) b text (omega (arith, first), omega (arith, first)) ∙ ap (λ y. unmatched_bytes (step y) text) first
    tested false same found at =
        unmatched_bytes-branch_out x 0 (step x) (Heads names step none) b text (λ h. false≢true (sym same ∙ eq-eqb x b (omega (arith, h.0, h.1)))) ∙ found at

heads-out : (names : List (List ℕ)) (step : ℕ → Shape) (none : Shape) (b : ℕ) (text : List ℕ) → IsStuck names (b ∷ text) → unmatched_bytes (Heads names step none) (b ∷ text) ≡ unmatched_bytes none (b ∷ text)
unfolding Heads
heads-out [] step none b text stuck = refl
heads-out ([] ∷ names) step none b text stuck = heads-out names step none b text stuck
heads-out ((x ∷ xs) ∷ names) step none b text stuck = tested (x == b) refl (λ out. heads-out names step none b text out) stuck
  where
    tested : (t : Bool) → (x == b) ≡ t → (IsStuck names (b ∷ text) → unmatched_bytes (Heads names step none) (b ∷ text) ≡ unmatched_bytes none (b ∷ text))
        → ((m : ℕ) (z : List ℕ) → IsAt (add_if t xs (after b names)) m z → ⊥) → unmatched_bytes (Branch x 0 (step x) (Heads names step none)) (b ∷ text) ≡ unmatched_bytes none (b ∷ text)
    tested true same found out = absurd (out 0 xs refl)
    tested false same found out =
        unmatched_bytes-branch_out x 0 (step x) (Heads names step none) b text (λ h. false≢true (sym same ∙ eq-eqb x b (omega (arith, h.0, h.1)))) ∙ found out

none-on : (k : ℕ) (names : List (List ℕ)) (f : Shape) (rest : List ℕ) → IsStuck names rest → unmatched_bytes (NamesShape k names f) rest ≡ unmatched_bytes (Last names f) rest
unfolding NamesShape
none-on zero names f rest stuck = refl
none-on (suc k) names f [] stuck = heads-end names (λ b. NamesShape k (after b names) f) (Last names f)
none-on (suc k) names f (b ∷ rest) stuck = heads-out names (λ c. NamesShape k (after c names) f) (Last names f) b rest stuck

shape-at : (p : List ℕ) (k : ℕ) (names : List (List ℕ)) (f : Shape) (rest : List ℕ) (m : ℕ) (z : List ℕ) → length p ≤ k → IsAt (afters p names) m z → IsStuck (afters p names) rest
    → unmatched_bytes (NamesShape k names f) (p ++ rest) ≡ unmatched_bytes (Last (afters p names) f) rest
unfolding NamesShape
shape-at [] k names f rest m z few at stuck = none-on k names f rest stuck
shape-at (b ∷ p) zero names f rest m z few at stuck = absurd (omega arith)
shape-at (b ∷ p) (suc k) names f rest m z few at stuck =
    let first = from-afters p (after b names) m z at in
    heads-in names (λ c. NamesShape k (after c names) f) (Last names f) b (p ++ rest) first.0 (p ++ z) first.1 ∙ shape-at p k (after b names) f rest m z (omega arith) at stuck

-- ---- where no name goes on
end-at : (names : List (List ℕ)) (m : ℕ) → IsAt names m [] → has_end names ≡ true
end-at [] m e = cc
end-at ([] ∷ names) m e = refl
end-at ((x ∷ xs) ∷ names) zero e = cc
end-at ((x ∷ xs) ∷ names) (suc m) e = end-at names m e

no-end : (names : List (List ℕ)) → ((m : ℕ) → IsAt names m [] → ⊥) → has_end names ≡ false
no-end [] none = refl
no-end ([] ∷ names) none = absurd (none 0 refl)
no-end ((x ∷ xs) ∷ names) none = no-end names (λ m e. none (suc m) e)

no-byte : (names : List (List ℕ)) (f : Shape) (rest : List ℕ) (m : ℕ) (z : List ℕ) → IsAt names m z → ((n : ℕ) → IsAt names n [] → ⊥) → IsStuck names rest
    → unmatched_bytes (Byte (first_byte names) f) rest ≡ suc (length rest)
no-byte [] f rest m z at none stuck = cc
no-byte ([] ∷ names) f rest m z at none stuck = absurd (none 0 refl)
no-byte ((x ∷ xs) ∷ names) f [] m z at none stuck = unmatched_bytes-end x 0 f
no-byte ((x ∷ xs) ∷ names) f (b ∷ rest) m z at none stuck =
    unmatched_bytes-out x 0 f b rest (λ h.
    let same : x ≡ b = omega (arith, h.0, h.1) in
    let goes = at-after ((x ∷ xs) ∷ names) 0 b xs (ap (λ y. Some (y ∷ xs)) same) in
    stuck goes.0 xs goes.1)

within-longest : (names : List (List ℕ)) (n : ℕ) (x : List ℕ) → IsAt names n x → length x ≤ longest names
within-longest [] n x e = cc
within-longest (y ∷ names) zero x e = let same : y ≡ x = cc in omega (arith, ap length same)
within-longest (y ∷ names) (suc n) x e = omega (arith, within-longest names n x e)

-- A name, and a rest with which no name goes on.
pub found-shape : (names : List (List ℕ)) (n : ℕ) (name rest : List ℕ) (f : Shape) → slice_get names n ≡ Some name → IsStuck (afters name names) rest
    → unmatched_bytes (TableShape names f) (name ++ rest) ≡ unmatched_bytes f rest
found-shape names n name rest f e stuck =
    let at = at-afters name names n [] (e ∙ ap Some (sym (append-nil name))) in
    shape-at name (longest names) names f rest at.0 [] (within-longest names n name e) at.1 stuck
    ∙ ap (λ t. unmatched_bytes (if t then f else Byte (first_byte (afters name names)) f) rest) (end-at (afters name names) at.0 at.1)

-- Bytes that begin a name and are none, and a rest with which no name goes on.
stopped-shape : (names : List (List ℕ)) (n : ℕ) (p z rest : List ℕ) (f : Shape) → IsAt names n (p ++ z) → ((m : ℕ) → IsAt names m p → ⊥) → IsStuck (afters p names) rest
    → unmatched_bytes (TableShape names f) (p ++ rest) ≡ suc (length rest)
stopped-shape names n p z rest f e none stuck =
    let at = at-afters p names n z e in
    let no = λ (m : ℕ) (h : IsAt (afters p names) m []). let from = from-afters p names m [] h in none from.0 (from.1 ∙ ap Some (append-nil p)) in
    shape-at p (longest names) names f rest at.0 z (omega (arith, within-longest names n (p ++ z) e, length-append p z)) at.1 stuck
    ∙ ap (λ t. unmatched_bytes (if t then f else Byte (first_byte (afters p names)) f) rest) (no-end (afters p names) no) ∙ no-byte (afters p names) f rest at.0 z at.1 no stuck

-- ---- the bytes of a text that begin a name
begun-at : (p : List ℕ) (names : List (List ℕ)) → any_begins p names ≡ true → (z : List ℕ) × IsOne names (p ++ z)
begun-at p [] e = absurd (false≢true e)
begun-at p (x ∷ names) e = tested (begins_with p x) refl (λ h. begun-at p names h) e
  where
    tested : (t : Bool) → begins_with p x ≡ t → (any_begins p names ≡ true → (z : List ℕ) × IsOne names (p ++ z)) → (t || any_begins p names) ≡ true → (z : List ℕ) × IsOne (x ∷ names) (p ++ z)
    tested true begins found h = (drop (length p) x, (0, ap Some (rest-is p x begins)))
    tested false begins found h = let next = found h in (next.0, (suc next.1.0, next.1.1))

begun-by : (p : List ℕ) (names : List (List ℕ)) (n : ℕ) (z : List ℕ) → IsAt names n (p ++ z) → any_begins p names ≡ true
begun-by p [] n z e = cc
begun-by p (x ∷ names) zero z e = let same : x ≡ p ++ z = cc in or_left (begins_with p x) (any_begins p names) (ap (begins_with p) same ∙ begins-with_rest p z)
begun-by p (x ∷ names) (suc n) z e = or_right (begins_with p x) (any_begins p names) (begun-by p names n z e)

take-more : (p : List ℕ) (b : ℕ) (rest : List ℕ) → take (suc (length p)) (p ++ b ∷ rest) ≡ p ++ b ∷ []
take-more [] b rest = refl
take-more (x ∷ p) b rest = ap (λ l. x ∷ l) (take-more p b rest)

reach-stuck : (names : List (List ℕ)) (p rest : List ℕ) → (1 ≤ length rest → any_begins (take (suc (length p)) (p ++ rest)) names ≡ false) → IsStuck (afters p names) rest
reach-stuck names p [] none = tt
reach-stuck names p (b ∷ rest) none = λ m z at.
    let one = more-of p names b m z at in
    let begun = begun-by (p ++ b ∷ []) names one.0 z (one.1 ∙ ap Some (sym (append_assoc p (b ∷ []) z))) in
    false≢true (sym (none (omega arith)) ∙ ap (λ l. any_begins l names) (take-more p b rest) ∙ begun)

text-stuck : (names : List (List ℕ)) (text : List ℕ) (d : ℕ) → IsReach names text d → IsStuck (afters (take d text) names) (drop d text)
text-stuck names text d h =
    let whole = take-append-drop d text in
    let long : length (take d text) ≡ d = omega (arith, h.within, length-drop d text, ap length whole, length-append (take d text) (drop d text)) in
    let next : d + 1 ≡ suc (length (take d text)) = omega (arith, long) in
    reach-stuck names (take d text) (drop d text) (λ some.
    ap (λ l. any_begins (take (suc (length (take d text))) l) names) whole ∙ ap (λ j. any_begins (take j text) names) (sym next) ∙ h.stuck (omega (arith, some, length-drop d text)))

pub past-name : (names : List (List ℕ)) (text : List ℕ) (d n : ℕ) (f : Shape) → IsReach names text d → slice_get names n ≡ Some (take d text) → unmatched_bytes (TableShape names f) text ≡ unmatched_bytes f (drop d text)
past-name names text d n f h at =
    ap (unmatched_bytes (TableShape names f)) (sym (take-append-drop d text)) ∙ found-shape names n (take d text) (drop d text) f at (text-stuck names text d h)

pub stop-name : (names : List (List ℕ)) (text : List ℕ) (d : ℕ) (f : Shape) → IsReach names text d → ((n : ℕ) → slice_get names n ≡ Some (take d text) → ⊥) → unmatched_bytes (TableShape names f) text ≡ suc (length (drop d text))
stop-name names text d f h none =
    let begun = begun-at (take d text) names h.begun in
    ap (unmatched_bytes (TableShape names f)) (sym (take-append-drop d text)) ∙ stopped-shape names begun.1.0 (take d text) begun.0 (drop d text) f begun.1.1 none (text-stuck names text d h)

-- ---- a name ends
pub parted-stuck : (names : List (List ℕ)) (n b : ℕ) (name rest : List ℕ) → NoneContinued names b → slice_get names n ≡ Some name → IsStuck (afters name names) (b ∷ rest)
parted-stuck names n b name rest none e = λ m z at.
    let one = more-of name names b m z at in
    none n one.0 name (name ++ b ∷ z) e one.1 (z, refl)

-- ---- a scan of a table
pub rest-same : (text : List ℕ) (d : ℕ) → take (length text - d) (drop d text) ≡ drop d text
rest-same text d = take_all (length text - d) (drop d text) (omega (arith, length-drop d text))

pub scanned : (names : List (List ℕ)) (text : List ℕ) (d : ℕ) (r : Option ℕ) → IsReach names text d → IfNone r ((n : ℕ) → slice_get names n ≡ Some (take d text) → ⊥) → IfSome r (λ n. slice_get names n ≡ Some (take d text))
    → Scans (TableShape names) text (drop d text) r
scanned names text d None h none some = λ f. stop-name names text d f h none
scanned names text d (Some n) h none some = λ f. past-name names text d n f h some

pub scanned-text : (names : List (List ℕ)) (text : List ℕ) (d : ℕ) (r : Option ℕ) → IfSome r (λ n. slice_get names n ≡ Some (take d text)) → IfSome r (λ n. text ≡ get_or names n [] ++ drop d text)
scanned-text names text d None some = tt
scanned-text names text d (Some n) some = sym (take-append-drop d text) ∙ ap (λ l. l ++ drop d text) (sym (get_or_from_slice_get names n (take d text) [] some))

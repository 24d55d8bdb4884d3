-- Splitting a text at the first separator outside quotation marks.
use Rattle.std.proofs.Common.{◌≡◌, ℕ, suc, ◌+◌, ◌<◌, ◌≤◌, Bool, true, false, cond, eqb, not, List, [], ◌∷◌, ◌++◌, append-nil, append_assoc, length, length-append, take, drop, get_or, refl, sym, ap, ◌∙◌, arith}
use Rattle.std.specs.Prelude.{◌&&◌}
use Rattle.std.specs.List.{onto_first}
use Rattle.std.proofs.lemmas.Bool.{eq-eqb}
use Rattle.std.proofs.lemmas.List.{drop_all, drop_at, drop_more, take_all, take_at}
use Rattle.cal_recurrence.specs.Words.{front_outside, parts_outside, place_outside, quoted_after, rest_outside}
use Rattle.cal_recurrence.proofs.Avoided.{avoids, parts}

-- ---- one byte of a text
-- a separator outside quotation marks ends the part
here : (byte : ℕ) (quoted : Bool) (xs : List ℕ) (n x : ℕ) → n < length xs → get_or xs n 0 ≡ x → not quoted && eqb x byte ≡ true → place_outside byte quoted (drop n xs) ≡ 0
here byte quoted xs n x less is ends =
    rw (drop_more xs n 0 less, is, ends) refl

-- and any other byte is in it
onward : (byte : ℕ) (quoted : Bool) (xs : List ℕ) (n x : ℕ) → n < length xs → get_or xs n 0 ≡ x → not quoted && eqb x byte ≡ false
    → place_outside byte quoted (drop n xs) ≡ 1 + place_outside byte (quoted_after quoted x) (drop (n + 1) xs)
onward byte quoted xs n x less is goes =
    rw (drop_more xs n 0 less, is, goes) refl

-- the bytes before n are in the part
abbrev pub IsPassed : ℕ → Bool → List ℕ → ℕ → Type 0
IsPassed byte quoted xs n = (n ≤ length xs) × (place_outside byte false xs ≡ n + place_outside byte quoted (drop n xs))

pub found-here : (byte : ℕ) (quoted : Bool) (xs : List ℕ) (n x : ℕ) → n < length xs → get_or xs n 0 ≡ x → IsPassed byte quoted xs n → not quoted && eqb x byte ≡ true
    → place_outside byte false xs ≡ n
found-here byte quoted xs n x less is passed ends = omega (arith, passed.1, here byte quoted xs n x less is ends)

pub goes-on : (byte : ℕ) (quoted : Bool) (xs : List ℕ) (n x : ℕ) (next : Bool) → n < length xs → get_or xs n 0 ≡ x → IsPassed byte quoted xs n → not quoted && eqb x byte ≡ false
    → next ≡ quoted_after quoted x → IsPassed byte next xs (n + 1)
goes-on byte quoted xs n x next less is passed goes e =
    (omega (arith, less), omega (arith, passed.1, onward byte quoted xs n x less is goes, ap (λ q. place_outside byte q (drop (n + 1) xs)) e))

pub nowhere : (byte : ℕ) (quoted : Bool) (xs : List ℕ) (n : ℕ) → length xs ≤ n → IsPassed byte quoted xs n → place_outside byte false xs ≡ length xs
nowhere byte quoted xs n most passed =
    let none : place_outside byte quoted (drop n xs) ≡ 0 = ap (place_outside byte quoted) (drop_all n xs most) in
    omega (arith, passed.0, passed.1, most, none)

-- ---- the parts
cut-at : (byte : ℕ) (quoted : Bool) (xs : List ℕ) → place_outside byte quoted xs < length xs
    → parts_outside byte quoted xs ≡ take (place_outside byte quoted xs) xs ∷ parts_outside byte false (drop (place_outside byte quoted xs + 1) xs)
cut-at byte quoted [] less = absurd (omega (arith, less))
cut-at byte quoted (x ∷ xs) less = by-byte (not quoted && eqb x byte) (λ h. cut-at byte (quoted_after quoted x) xs h) less
  where
    p : ℕ
    p = place_outside byte (quoted_after quoted x) xs

    by-byte : (t : Bool) → (p < length xs → parts_outside byte (quoted_after quoted x) xs ≡ take p xs ∷ parts_outside byte false (drop (p + 1) xs)) → cond t 0 (1 + p) < length (x ∷ xs)
        → cond t ([] ∷ parts_outside byte false xs) (onto_first x (parts_outside byte (quoted_after quoted x) xs))
        ≡ take (cond t 0 (1 + p)) (x ∷ xs) ∷ parts_outside byte false (drop (cond t 0 (1 + p) + 1) (x ∷ xs))
    by-byte true rest h = refl
    by-byte false rest h =
        let next : suc p ≡ 1 + p = omega arith in
        let after : suc (p + 1) ≡ 1 + p + 1 = omega arith in
        ap (onto_first x) (rest (omega (arith, h)))
        ∙ ap (λ n. take n (x ∷ xs) ∷ parts_outside byte false (drop (p + 1) xs)) next
        ∙ ap (λ n. take (1 + p) (x ∷ xs) ∷ parts_outside byte false (drop n (x ∷ xs))) after

whole : (byte : ℕ) (quoted : Bool) (xs : List ℕ) → length xs ≤ place_outside byte quoted xs → parts_outside byte quoted xs ≡ xs ∷ []
whole byte quoted [] most = refl
whole byte quoted (x ∷ xs) most = by-byte (not quoted && eqb x byte) (λ h. whole byte (quoted_after quoted x) xs h) most
  where
    p : ℕ
    p = place_outside byte (quoted_after quoted x) xs

    by-byte : (t : Bool) → (length xs ≤ p → parts_outside byte (quoted_after quoted x) xs ≡ xs ∷ []) → length (x ∷ xs) ≤ cond t 0 (1 + p)
        → cond t ([] ∷ parts_outside byte false xs) (onto_first x (parts_outside byte (quoted_after quoted x) xs)) ≡ (x ∷ xs) ∷ []
    by-byte true rest h = absurd (omega (arith, h))
    by-byte false rest h = ap (onto_first x) (rest (omega (arith, h)))

-- if the bytes have a separator
pub split_here : (byte k : ℕ) (xs : List ℕ) → k < length xs → place_outside byte false xs ≡ k
    → (parts_outside byte false xs ≡ take k xs ∷ parts_outside byte false (drop (k + 1) xs)) × (take k xs ≡ front_outside byte xs) × (drop (k + 1) xs ≡ rest_outside byte xs)
split_here byte k xs less e = (
  cut-at byte false xs (omega (arith, less, e)) ∙ ap (λ n. take n xs ∷ parts_outside byte false (drop (n + 1) xs)) e,
  ap (λ n. take n xs) (sym e),
  ap (λ n. drop (n + 1) xs) (sym e),
)

-- if they have none
pub split_nowhere : (byte : ℕ) (xs : List ℕ) → place_outside byte false xs ≡ length xs
    → (parts_outside byte false xs ≡ xs ∷ []) × (xs ≡ front_outside byte xs) × ([] ≡ rest_outside byte xs)
split_nowhere byte xs e = (
  whole byte false xs (omega (arith, e)),
  sym (take_all _ xs (omega (arith, e))),
  sym (drop_all _ xs (omega (arith, e))),
)

-- ---- bytes without quotation marks
plain-place : (byte : ℕ) (xs ys : List ℕ) → avoids byte xs ≡ true → avoids 34 xs ≡ true → place_outside byte false (xs ++ ys) ≡ length xs + place_outside byte false ys
plain-place byte [] ys h k = omega arith
plain-place byte (x ∷ xs) ys h k =
    let both = parts (eqb x byte) (avoids byte xs) h in
    let mark = parts (eqb x 34) (avoids 34 xs) k in
    rw (both.0, mark.0) (omega (arith, plain-place byte xs ys both.1 mark.1))

place-here : (byte : ℕ) (xs ys : List ℕ) → avoids byte xs ≡ true → avoids 34 xs ≡ true → place_outside byte false (xs ++ byte ∷ ys) ≡ length xs
place-here byte xs ys h k =
    let first : place_outside byte false (byte ∷ ys) ≡ 0 = ap (λ t. cond t 0 (1 + place_outside byte (quoted_after false byte) ys)) (eq-eqb byte byte refl) in
    omega (arith, plain-place byte xs (byte ∷ ys) h k, first)

pub front-outside : (byte : ℕ) (xs ys : List ℕ) → avoids byte xs ≡ true → avoids 34 xs ≡ true → front_outside byte (xs ++ byte ∷ ys) ≡ xs
front-outside byte xs ys h k = ap (λ n. take n (xs ++ byte ∷ ys)) (place-here byte xs ys h k) ∙ take_at xs (byte ∷ ys) (length xs) refl

pub rest-outside : (byte : ℕ) (xs ys : List ℕ) → avoids byte xs ≡ true → avoids 34 xs ≡ true → rest_outside byte (xs ++ byte ∷ ys) ≡ ys
rest-outside byte xs ys h k =
    ap (λ n. drop (n + 1) (xs ++ byte ∷ ys)) (place-here byte xs ys h k)
    ∙ ap (drop (length xs + 1)) (sym (append_assoc xs (byte ∷ []) ys)) ∙ drop_at (xs ++ byte ∷ []) ys (length xs + 1) (length-append xs (byte ∷ []))

pub cut-outside : (byte : ℕ) (xs ys : List ℕ) → avoids byte xs ≡ true → avoids 34 xs ≡ true → parts_outside byte false (xs ++ byte ∷ ys) ≡ xs ∷ parts_outside byte false ys
cut-outside byte xs ys h k =
    let all = xs ++ byte ∷ ys in
    let place = place-here byte xs ys h k in
    (split_here byte (length xs) all (omega (arith, length-append xs (byte ∷ ys))) place).0
    ∙ ap (λ first. first ∷ parts_outside byte false (drop (length xs + 1) all)) (take_at xs (byte ∷ ys) (length xs) refl)
    ∙ ap (λ rest. xs ∷ parts_outside byte false rest) (ap (λ n. drop (n + 1) all) (sym place) ∙ rest-outside byte xs ys h k)

-- and without the separator
none-place : (byte : ℕ) (xs : List ℕ) → avoids byte xs ≡ true → avoids 34 xs ≡ true → place_outside byte false xs ≡ length xs
none-place byte xs h k = ap (place_outside byte false) (sym (append-nil xs)) ∙ plain-place byte xs [] h k ∙ omega arith

pub front-plain : (byte : ℕ) (xs : List ℕ) → avoids byte xs ≡ true → avoids 34 xs ≡ true → front_outside byte xs ≡ xs
front-plain byte xs h k = sym ((split_nowhere byte xs (none-place byte xs h k)).1)

pub cut-plain : (byte : ℕ) (xs : List ℕ) → avoids byte xs ≡ true → avoids 34 xs ≡ true → parts_outside byte false xs ≡ xs ∷ []
cut-plain byte xs h k = (split_nowhere byte xs (none-place byte xs h k)).0

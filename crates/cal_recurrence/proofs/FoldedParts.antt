-- The lines of a text with folds, one by one.
use Rattle.std.proofs.Common.{◌≡◌, ℕ, zero, suc, ◌+◌, ◌-◌, ◌<◌, ◌≤◌, Bool, true, false, cond, eqb, List, [], ◌∷◌, ◌++◌, length, append_assoc, length-take, Option, Some, None, take, drop, inl, inr, refl, sym, ap, subst, ◌∙◌, arith}
use Rattle.std.specs.Prelude.{◌&&◌, ◌||◌, nat_le, slice_index, IfSome, ⊤}
use Rattle.std.specs.List.{join_with_byte, onto_first, All, AllZip}
use Rattle.std.proofs.lemmas.Bool.{cases_Bool, cases_lt, and_parts, and_from, and_left, and_right, eqb-true, not_from_false, not_from_true, or_cases, or_left, or_parts, false≢true, le-leb, lt-leb}
use Rattle.std.proofs.lemmas.List.Splits.{length-slice_split, slice_split-cons_no}
use Rattle.std.proofs.lemmas.List.Elements.{All-append, All-cons, All-drop, All-head, All-nil, All-tail, All-take}
use Rattle.cal_recurrence.specs.Buffers.{IsPut}
use Rattle.cal_recurrence.specs.Folding.{is_line_end, IsFolded, IsFoldedLine, IsShortLine}
use Rattle.cal_recurrence.specs.Folding.IsFoldedLine.{short, long}
use Rattle.cal_recurrence.specs.SetText.{without_return}
use Rattle.cal_recurrence.specs.Words.{first_bytes, parts_at}
use Rattle.cal_recurrence.proofs.Avoided.{avoids-append, cut-here, cut-nowhere, from-all}
use Rattle.cal_recurrence.proofs.SetLines.{without-return}
use Rattle.cal_recurrence.proofs.Avoided.{parts-bytes}
use Rattle.cal_recurrence.proofs.FoldedLines.{fold_before, folded_after, folded_of, line}

-- ---- the size of a line
abbrev size : List ℕ → ℕ
size text = length (without_return text)

size-return : size (13 ∷ []) ≡ 0
unfolding first_bytes
size-return = refl

size-one : (x : ℕ) → size (x ∷ []) ≤ 1
unfolding first_bytes
size-one x = either (eqb x 13)
  where
    either : (b : Bool) → length (cond b (first_bytes 0 (x ∷ [])) (x ∷ [])) ≤ 1
    either true = omega arith
    either false = omega arith

size-plain : (x : ℕ) → eqb x 13 ≡ false → size (x ∷ []) ≡ 1
size-plain x e = ap (λ b. length (cond b (first_bytes 0 (x ∷ [])) (x ∷ []))) e

size-more : (x y : ℕ) (ys : List ℕ) → size (x ∷ y ∷ ys) ≡ size (y ∷ ys) + 1
unfolding first_bytes
size-more x y ys =
    let text = y ∷ ys in
    let next : length (x ∷ text) - 1 ≡ suc (length text - 1) = omega arith in
    let last : slice_index (x ∷ text) (length (x ∷ text) - 1) ≡ slice_index text (length text - 1) = ap (slice_index (x ∷ text)) next in
    subst (λ c. length (cond (eqb c 13) (first_bytes (length (x ∷ text) - 1) (x ∷ text)) (x ∷ text)) ≡ size text + 1) (sym last)
    (either (eqb (slice_index text (length text - 1)) 13))
  where
    either : (b : Bool) → length (cond b (first_bytes (length (x ∷ y ∷ ys) - 1) (x ∷ y ∷ ys)) (x ∷ y ∷ ys))
        ≡ length (cond b (first_bytes (length (y ∷ ys) - 1) (y ∷ ys)) (y ∷ ys)) + 1
    either true = omega (arith, length-take (length (x ∷ y ∷ ys) - 1) (x ∷ y ∷ ys), length-take (length (y ∷ ys) - 1) (y ∷ ys))
    either false = omega arith

size-cons : (x : ℕ) (part : List ℕ) → size (x ∷ part) ≤ size part + 1
size-cons x [] = omega (arith, size-one x)
size-cons x (y ∷ ys) = omega (arith, size-more x y ys)

-- ---- one byte more at the front of a line
more : (column x : ℕ) (part folded : List ℕ) → column < 75 → IsFoldedLine (column + 1) part folded → IsFoldedLine column (x ∷ part) (x ∷ folded)
more column x part folded less (short _ _ few) = short column (x ∷ part) (omega (arith, few, size-cons x part))
more column x part folded less (long _ _ rest many h) = longer part many h
  where
    longer : (part : List ℕ) → 75 < column + 1 + size part → IsFoldedLine 1 (drop (75 - (column + 1)) part) rest
        → IsFoldedLine column (x ∷ part) (x ∷ (take (75 - (column + 1)) part ++ 13 ∷ 10 ∷ 32 ∷ rest))
    longer [] many h = absurd (omega (arith, many, less))
    longer (y ∷ ys) many h =
        let text = x ∷ y ∷ ys in
        let e : 75 - column ≡ suc (75 - (column + 1)) = omega (arith, less) in
        let its : IsFoldedLine column text (take (75 - column) text ++ 13 ∷ 10 ∷ 32 ∷ rest) =
        long column text rest (omega (arith, many, size-more x y ys)) (subst (λ n. IsFoldedLine 1 (drop n text) rest) (sym e) h) in
        subst (λ n. IsFoldedLine column text (take n text ++ 13 ∷ 10 ∷ 32 ∷ rest)) e its

-- ---- the lines, after some bytes of the first
abbrev AreFolded : ℕ → List (List ℕ) → List ℕ → Type 0
AreFolded column [] folded = ⊥
AreFolded column (part ∷ parts) folded =
    (first : List ℕ) × (others : List (List ℕ)) × IsFoldedLine column part first × AllZip (IsFoldedLine 0) parts others × (folded ≡ join_with_byte 10 (first ∷ others))

join-cons : (x : ℕ) (first : List ℕ) (others : List (List ℕ)) → x ∷ join_with_byte 10 (first ∷ others) ≡ join_with_byte 10 ((x ∷ first) ∷ others)
join-cons x first [] = refl
join-cons x first (other ∷ others) = refl

byte-more : (column x : ℕ) (parts : List (List ℕ)) (folded : List ℕ) → column < 75 → AreFolded (column + 1) parts folded → AreFolded column (onto_first x parts) (x ∷ folded)
byte-more column x [] folded less h = absurd h
byte-more column x (part ∷ parts) folded less h =
    (x ∷ h.0, h.1, more column x part h.0 less h.2, h.3, ap (λ bytes. x ∷ bytes) h.4 ∙ join-cons x h.0 h.1)

line-more : (column : ℕ) (parts : List (List ℕ)) (folded : List ℕ) → column ≤ 75 → AreFolded 0 parts folded → AreFolded column ([] ∷ parts) (10 ∷ folded)
line-more column [] folded few h = absurd h
line-more column (part ∷ parts) folded few h = ([], h.0 ∷ h.1, short column [] (omega (arith, few)), (h.2, h.3), ap (λ bytes. 10 ∷ bytes) h.4)

return-more : (column : ℕ) (parts : List (List ℕ)) (folded : List ℕ) → column ≤ 75 → AreFolded 0 parts folded
    → AreFolded column ((13 ∷ []) ∷ parts) (13 ∷ 10 ∷ folded)
return-more column [] folded few h = absurd h
return-more column (part ∷ parts) folded few h =
    (13 ∷ [], h.0 ∷ h.1, short column (13 ∷ []) (omega (arith, few, size-return)), (h.2, h.3), ap (λ bytes. 13 ∷ 10 ∷ bytes) h.4)

-- the line doesn't end at its first byte
abbrev HasByte : ℕ → List (List ℕ) → Type 0
HasByte x [] = ⊥
HasByte x (part ∷ parts) = 0 < size (x ∷ part)

has-onto : (x c : ℕ) (parts : List (List ℕ)) → HasByte x (onto_first c parts)
has-onto x c [] = omega (arith, size-more x c [])
has-onto x c (part ∷ parts) = omega (arith, size-more x c part)

unless : (a b : Bool) → b ≡ true → a && b ≡ false → a ≡ false
unless true b e h = absurd (false≢true (sym h ∙ e))
unless false b e h = refl

has-byte : (x : ℕ) (bs : List ℕ) → eqb x 10 ≡ false → is_line_end (x ∷ bs) ≡ false → HasByte x (parts_at 10 bs)
has-byte x [] other plain = omega (arith, size-plain x (unless (eqb x 13) true refl (or_parts (eqb x 10) (eqb x 13 && true) plain).1))
has-byte x (c ∷ cs) other plain = elim (cases_Bool (eqb c 10)) [
  | inl feed ↦
      let one = size-plain x (unless (eqb x 13) _ (or_left (eqb c 10) (eqb (length (x ∷ c ∷ cs)) 1) feed) (or_parts (eqb x 10) _ plain).1) in
      subst (λ t. HasByte x (cond t ([] ∷ parts_at 10 cs) (onto_first c (parts_at 10 cs)))) (sym feed) (omega (arith, one))
  | inr others ↦ subst (HasByte x) (sym (slice_split-cons_no (λ b. eqb b 10) c cs others)) (has-onto x c (parts_at 10 cs))
]

fold-more : (x : ℕ) (parts : List (List ℕ)) (folded : List ℕ) → HasByte x parts → AreFolded 1 (onto_first x parts) folded
    → AreFolded 75 (onto_first x parts) (13 ∷ 10 ∷ 32 ∷ folded)
fold-more x [] folded some h = absurd some
fold-more x (part ∷ parts) folded some h = (
  13 ∷ 10 ∷ 32 ∷ h.0,
  h.1,
  long 75 (x ∷ part) h.0 (omega (arith, some)) h.2,
  h.3,
  ap (λ bytes. 13 ∷ 10 ∷ 32 ∷ bytes) h.4 ∙ ap (λ bytes. 13 ∷ 10 ∷ bytes) (join-cons 32 h.0 h.1) ∙ ap (λ bytes. 13 ∷ bytes) (join-cons 10 (32 ∷ h.0) h.1) ∙ join-cons 13 (10 ∷ 32 ∷ h.0) h.1,
)

-- ---- the bytes of the loop
abbrev Folds : ℕ → List ℕ → Type 0
Folds column bs = AreFolded column (parts_at 10 bs) (folded_after column bs)

-- a byte that no fold precedes, and that ends no line
kept : (column b : ℕ) (bs : List ℕ) → fold_before column (b ∷ bs) ≡ false → eqb b 10 ≡ false → folded_after column (b ∷ bs) ≡ b ∷ folded_after (column + 1) bs
kept column b bs plain other =
    rw (plain, other) refl

onto : (column b : ℕ) (bs folded : List ℕ) → eqb b 10 ≡ false → AreFolded column (onto_first b (parts_at 10 bs)) folded → AreFolded column (parts_at 10 (b ∷ bs)) folded
onto column b bs folded other h = subst (λ parts. AreFolded column parts folded) (sym (slice_split-cons_no (λ x. eqb x 10) b bs other)) h

-- a carriage return at the end of its line
last-return : (n column : ℕ) (bs : List ℕ) → column ≤ 75 → eqb (slice_index bs 0) 10 || eqb (length (13 ∷ bs)) 1 ≡ true → length bs ≤ n
    → ((cs : List ℕ) → length cs ≤ n → Folds 0 cs) → AreFolded column (onto_first 13 (parts_at 10 bs)) (13 ∷ folded_after (column + 1) bs)
last-return n column [] few e within h = (13 ∷ [], [], short column (13 ∷ []) (omega (arith, few, size-return)), tt, refl)
last-return n column (c ∷ cs) few e within h =
    elim (or_cases (eqb c 10) (eqb (length (13 ∷ c ∷ cs)) 1) e) [
      | inl feed ↦
          subst (λ x. AreFolded column (onto_first 13 (parts_at 10 (x ∷ cs))) (13 ∷ folded_after (column + 1) (x ∷ cs))) (sym (eqb-true c 10 feed))
          (subst (λ bytes. AreFolded column ((13 ∷ []) ∷ parts_at 10 cs) (13 ∷ bytes)) (sym (line (column + 1) cs))
          (return-more column (parts_at 10 cs) (folded_after 0 cs) few (h cs (omega (arith, within)))))
      | inr one ↦ absurd (omega (arith, eqb-true (length (13 ∷ c ∷ cs)) 1 one))
    ]

folds-within : (n : ℕ) (bs : List ℕ) (column : ℕ) → length bs ≤ n → column ≤ 75 → Folds column bs
folds-within n [] column within few = ([], [], short column [] (omega (arith, few)), tt, refl)
folds-within zero (b ∷ bs) column within few = absurd (omega (arith, within))
folds-within (suc n) (b ∷ bs) column within few =
    let less : length bs ≤ n = omega (arith, within) in
    let parts = parts_at 10 bs in
    elim (cases_Bool (eqb b 10)) [
      | inl feed ↦
          subst (λ x. Folds column (x ∷ bs)) (sym (eqb-true b 10 feed))
          (subst (AreFolded column ([] ∷ parts)) (sym (line column bs)) (line-more column parts (folded_after 0 bs) few (folds-within n bs 0 less (omega arith))))
      | inr other ↦ onto column b bs (folded_after column (b ∷ bs)) other (elim (cases_lt column 75) [
        | inl room ↦
            let plain : fold_before column (b ∷ bs) ≡ false = and_left (nat_le 75 column) _ (lt-leb 75 column room) in
            subst (AreFolded column (onto_first b parts)) (sym (kept column b bs plain other))
            (byte-more column b parts (folded_after (column + 1) bs) room (folds-within n bs (column + 1) less (omega (arith, room))))
        | inr full ↦ elim (cases_Bool (is_line_end (b ∷ bs))) [
          | inl ends ↦
              let plain : fold_before column (b ∷ bs) ≡ false = and_right (nat_le 75 column) _ (not_from_true _ ends) in
              let both = and_parts (eqb b 13) _ (sym (ap (λ t. t || (eqb b 13 && (eqb (slice_index bs 0) 10 || eqb (length (b ∷ bs)) 1))) other) ∙ ends) in
              subst (AreFolded column (onto_first b parts)) (sym (kept column b bs plain other))
              (subst (λ x. AreFolded column (onto_first x parts) (x ∷ folded_after (column + 1) bs)) (sym (eqb-true b 13 both.0))
              (last-return n column bs few both.1 less (λ cs short_enough. folds-within n cs 0 short_enough (omega arith))))
          | inr goes_on ↦
              let folded : fold_before column (b ∷ bs) ≡ true = and_from (nat_le 75 column) _ (le-leb 75 column full) (not_from_false _ goes_on) in
              let whole : folded_after column (b ∷ bs) ≡ 13 ∷ 10 ∷ 32 ∷ b ∷ folded_after 2 bs = rw folded refl in
              let all : column ≡ 75 = omega (arith, few, full) in
              subst (λ k. AreFolded k (onto_first b parts) (folded_after column (b ∷ bs))) (sym all)
              (subst (AreFolded 75 (onto_first b parts)) (sym whole)
              (fold-more b parts (b ∷ folded_after 2 bs) (has-byte b bs other goes_on)
              (byte-more 1 b parts (folded_after 2 bs) (omega arith) (folds-within n bs 2 less (omega arith)))))
        ]
      ])
    ]

pub folds : (text : List ℕ) → IsFolded text (folded_of text)
folds text = whole (parts_at 10 text) (folds-within (length text) text 0 (omega arith) (omega arith))
  where
    whole : (parts : List (List ℕ)) → AreFolded 0 parts (folded_of text) → (lines : List (List ℕ)) × AllZip (IsFoldedLine 0) parts lines × (folded_of text ≡ join_with_byte 10 lines)
    whole [] h = absurd h
    whole (part ∷ parts) h = (h.0 ∷ h.1, (h.2, h.3), h.4)

-- ---- one answer
one-line : (column : ℕ) (part a b : List ℕ) → IsFoldedLine column part a → IsFoldedLine column part b → a ≡ b
one-line column part a b (short _ _ few) (short _ _ same) = refl
one-line column part a b (short _ _ few) (long _ _ rest many k) = absurd (omega (arith, few, many))
one-line column part a b (long _ _ rest many h) (short _ _ few) = absurd (omega (arith, few, many))
one-line column part a b (long _ _ rest many h) (long _ _ others same k) =
    ap (λ left. take (75 - column) part ++ 13 ∷ 10 ∷ 32 ∷ left) (one-line 1 (drop (75 - column) part) rest others h k)

one-lines : (parts a b : List (List ℕ)) → AllZip (IsFoldedLine 0) parts a → AllZip (IsFoldedLine 0) parts b → a ≡ b
one-lines [] [] [] h k = refl
one-lines [] [] (y ∷ ys) h k = absurd k
one-lines [] (x ∷ xs) b h k = absurd h
one-lines (part ∷ parts) [] b h k = absurd h
one-lines (part ∷ parts) (x ∷ xs) [] h k = absurd k
one-lines (part ∷ parts) (x ∷ xs) (y ∷ ys) h k =
    ap (λ line. line ∷ xs) (one-line 0 part x y h.0 k.0) ∙ ap (λ lines. y ∷ lines) (one-lines parts xs ys h.1 k.1)

pub one_folded : (text a b : List ℕ) → IsFolded text a → IsFolded text b → a ≡ b
one_folded text a b h k = h.2 ∙ ap (join_with_byte 10) (one-lines (parts_at 10 text) h.0 k.0 h.1 k.1) ∙ sym k.2

pub one_put : (text a b c d : List ℕ) (r q : Option ℕ) → length a ≡ length b → (whole : List ℕ) × (IsFolded text whole × IsPut 0 whole a c r)
    → (whole : List ℕ) × (IsFolded text whole × IsPut 0 whole b d q)
    → (r ≡ q) × IfSome r (λ n. take n c ≡ take n d)
one_put text a b c d r q size h k = cases r q h.1.1 (subst (λ whole. IsPut 0 whole b d q) (one_folded text k.0 h.0 k.1.0 h.1.0) k.1.1)
  where
    cases : (r q : Option ℕ) → IsPut 0 h.0 a c r → IsPut 0 h.0 b d q → (r ≡ q) × IfSome r (λ n. take n c ≡ take n d)
    cases None None h k = (refl, tt)
    cases None (Some m) h k = absurd (omega (arith, h, k.0, k.1, size))
    cases (Some n) None h k = absurd (omega (arith, h.0, h.1, k, size))
    cases (Some n) (Some m) h k =
        let same : n ≡ m = omega (arith, h.0, k.0) in
        (ap Some same, h.2 ∙ sym k.2 ∙ ap (λ j. take j d) (sym same))

-- ---- lines of at most 75 bytes
-- the first of some lines comes after `column` bytes
abbrev AreShort : ℕ → List (List ℕ) → Type 0
AreShort column [] = ⊥
AreShort column (text ∷ texts) = (column + size text ≤ 75) × All IsShortLine texts

all-short : (texts : List (List ℕ)) → AreShort 0 texts → All IsShortLine texts
all-short [] h = absurd h
all-short (text ∷ texts) h = All-cons IsShortLine text texts (omega (arith, h.0)) h.1

one-longer : (column x : ℕ) (texts : List (List ℕ)) → AreShort (column + 1) texts → AreShort column (onto_first x texts)
one-longer column x [] h = absurd h
one-longer column x (text ∷ texts) h = (omega (arith, h.0, size-cons x text), h.1)

abbrev IsPlain : List ℕ → Type 0
IsPlain part = All (λ x. ¬ (x ≡ 10)) part

line-short : (column : ℕ) (part folded : List ℕ) → column ≤ 75 → IsPlain part → IsFoldedLine column part folded → AreShort column (parts_at 10 folded)
line-short column part folded few plain (short _ _ fits) = subst (AreShort column) (sym (cut-nowhere 10 part (from-all 10 part plain))) (fits, All-nil IsShortLine)
line-short column part folded few plain (long _ _ rest many h) =
    let n = 75 - column in
    let front = take n part in
    let avoided = avoids-append 10 front (13 ∷ []) (from-all 10 front (All-take (λ x. ¬ (x ≡ 10)) n part plain)) refl in
    let parts : parts_at 10 (front ++ 13 ∷ 10 ∷ 32 ∷ rest) ≡ (front ++ 13 ∷ []) ∷ parts_at 10 (32 ∷ rest) =
    ap (parts_at 10) (sym (append_assoc front (13 ∷ []) (10 ∷ 32 ∷ rest))) ∙ cut-here 10 (front ++ 13 ∷ []) (32 ∷ rest) avoided in
    let left = line-short 1 (drop n part) rest (omega arith) (All-drop (λ x. ¬ (x ≡ 10)) n part plain) h in
    subst (AreShort column) (sym parts)
    (omega (arith, few, ap length (without-return front), length-take n part), all-short (parts_at 10 (32 ∷ rest)) (one-longer 0 32 (parts_at 10 rest) left))

parts-append : (xs ys : List ℕ) → parts_at 10 (xs ++ 10 ∷ ys) ≡ parts_at 10 xs ++ parts_at 10 ys
parts-append [] ys = refl
parts-append (x ∷ xs) ys =
    let some : 1 ≤ length (parts_at 10 xs) = omega (arith, length-slice_split (λ b. eqb b 10) xs) in
    either (eqb x 10) (parts_at 10 (xs ++ 10 ∷ ys)) (parts_at 10 xs) some (parts-append xs ys)
  where
    either : (t : Bool) (whole front : List (List ℕ)) → 1 ≤ length front → whole ≡ front ++ parts_at 10 ys
        → cond t ([] ∷ whole) (onto_first x whole) ≡ cond t ([] ∷ front) (onto_first x front) ++ parts_at 10 ys
    either true whole front some e = ap (λ parts. [] ∷ parts) e
    either false whole [] some e = absurd (omega (arith, some))
    either false whole (part ∷ front) some e = ap (onto_first x) e

lines-short : (parts lines : List (List ℕ)) → All IsPlain parts → AllZip (IsFoldedLine 0) parts lines → All IsShortLine (parts_at 10 (join_with_byte 10 lines))
lines-short [] [] plain h = all-short ([] ∷ []) (omega arith, All-nil IsShortLine)
lines-short [] (x ∷ xs) plain h = absurd h
lines-short (part ∷ parts) [] plain h = absurd h
lines-short (part ∷ []) (x ∷ y ∷ ys) plain h = absurd h.1
lines-short (part ∷ next ∷ parts) (x ∷ []) plain h = absurd h.1
lines-short (part ∷ []) (x ∷ []) plain h = all-short (parts_at 10 x) (line-short 0 part x (omega arith) (All-head IsPlain part [] plain) h.0)
lines-short (part ∷ next ∷ parts) (x ∷ y ∷ ys) plain h =
    let left = join_with_byte 10 (y ∷ ys) in
    subst (All IsShortLine) (sym (parts-append x left))
    (All-append IsShortLine (parts_at 10 x) (parts_at 10 left) (all-short (parts_at 10 x) (line-short 0 part x (omega arith) (All-head IsPlain part (next ∷ parts) plain) h.0))
    (lines-short (next ∷ parts) (y ∷ ys) (All-tail IsPlain part (next ∷ parts) plain) h.1))

pub short_lines : (text folded : List ℕ) → IsFolded text folded → All IsShortLine (parts_at 10 folded)
short_lines text folded h =
    subst (λ bytes. All IsShortLine (parts_at 10 bytes)) (sym h.2)
    (lines-short (parts_at 10 text) h.0 (λ k d less i e more. (parts-bytes (λ x. ⊤) 10 text (λ k d less. tt) k d less i e more).1) h.1)

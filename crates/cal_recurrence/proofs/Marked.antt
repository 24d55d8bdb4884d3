-- A list of words, each after a mark, written one after another.
use Rattle.std.proofs.Common.{◌≡◌, ℕ, zero, suc, ◌+◌, ◌*◌, ◌<◌, ◌≤◌, length, drop, slice_index_or, List, [], ◌∷◌, ◌++◌, refl, sym, ap, ◌∙◌, arith, append_assoc, length-append}
use Rattle.std.specs.Prelude.{codes}
use Rattle.cal_recurrence.specs.Written.{list_text}

-- the text so far, with the words that are left after this mark, is the whole; and it is short
pub record IsWritten {X : Type 0} (word : X → List ℕ) (whole start text mark : List ℕ) (name count : ℕ) (words : List X) : Type 0 where
  pub same : text ++ list_text mark word words ≡ whole
  pub short : length text + length mark ≤ length start + name + 7 * count

-- the word at an index, and those after it
pub at_index : {X : Type 0} (xs : List X) (i : ℕ) (x : X) → i < length xs → drop i xs ≡ slice_index_or xs i x ∷ drop (i + 1) xs
at_index [] i x less = absurd (omega (arith, less))
at_index (y ∷ ys) zero x less = refl
at_index (y ∷ ys) (suc i) x less =
    let next : suc (i + 1) ≡ suc i + 1 = omega arith in
    at_index ys i x (omega (arith, less)) ∙ ap (λ n. slice_index_or ys i x ∷ drop n (y ∷ ys)) next

-- one word more
pub one_more : {X : Type 0} (word : X → List ℕ) (whole start text mark more most : List ℕ) (name i : ℕ) (x : X) (xs : List X)
    → IsWritten word whole start text mark name i (drop i xs) → i < length xs → x ≡ slice_index_or xs i x → length (word x) ≤ 6
    → more ≡ text ++ mark → most ≡ more ++ word x
    → IsWritten word whole start most (codes ",") name (i + 1) (drop (i + 1) xs)
one_more word whole start text mark more most name i x xs h less e few p q =
    let left = drop (i + 1) xs in
    let words : drop i xs ≡ x ∷ left = at_index xs i x less ∙ ap (λ y. y ∷ left) (sym e) in
    let old : text ++ ((mark ++ word x) ++ list_text (codes ",") word left) ≡ whole = ap (λ ws. text ++ list_text mark word ws) (sym words) ∙ h.same in
    let now : most ≡ (text ++ mark) ++ word x = q ∙ ap (λ t. t ++ word x) p in
    record {
      same = rw (now, append_assoc text mark (word x), append_assoc text (mark ++ word x)) old;
      short = omega (arith, h.short, few, ap length now, length-append (text ++ mark) (word x), length-append text mark);
    }

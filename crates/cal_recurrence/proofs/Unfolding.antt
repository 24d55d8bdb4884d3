-- A text that is copied without its folds, step by step.
use Rattle.std.proofs.Common.{◌≡◌, ℕ, zero, suc, ◌+◌, ◌<◌, ◌≤◌, List, [], ◌∷◌, ◌++◌, append-nil, append_assoc, length, length-drop, length-take, Option, Some, None, take, drop, slice_index_or, slice_set, length-set, inl, inr, refl, sym, ap, subst, ◌∙◌, arith}
use Rattle.std.specs.Prelude.{IfSome, MatchOption}
use Rattle.std.proofs.lemmas.Bool.{cases_lt}
use Rattle.std.proofs.lemmas.Grind.{take-set_at}
use Rattle.std.proofs.lemmas.List.{drop-drop, drop-set-lt, drop_all}
use Rattle.cal_recurrence.specs.Folding.{fold_length, IsUnfolded}
use Rattle.cal_recurrence.specs.Folding.IsUnfolded.{end as no_byte, byte as a_byte, fold as a_fold}
use Rattle.cal_recurrence.proofs.Marked.{at_index}

-- the first `filled` bytes, before what is left of the text from an index on without its folds, are
-- the text without its folds, and the other bytes are the old ones
pub record IsUnfolding (text old new : List ℕ) (filled index : ℕ) : Type 0 where
  pub joined : (left : List ℕ) → IsUnfolded (drop index text) left → IsUnfolded text (take filled new ++ left)
  pub rest : drop filled new ≡ drop filled old
  pub few : filled ≤ index
  pub within : filled ≤ length text
  pub size : length new ≡ length old

pub one_fold : (text old new : List ℕ) (filled index fold : ℕ) → IsUnfolding text old new filled index → index < length text
    → fold ≡ fold_length (drop index text) → 0 < fold
    → IsUnfolding text old new filled (index + fold)
one_fold text old new filled index fold h less e some =
    let past : drop (index + fold) text ≡ drop (fold_length (drop index text)) (drop index text) =
    ap (λ n. drop n text) (omega arith) ∙ sym (drop-drop fold index text) ∙ ap (λ n. drop n (drop index text)) e in
    record {
      joined = λ left its. h.joined left (a_fold (drop index text) left (omega (arith, e, some)) (subst (λ bytes. IsUnfolded bytes left) past its));
      rest = h.rest;
      few = omega (arith, h.few);
      within = h.within;
      size = h.size;
    }

pub one_byte : (text old new : List ℕ) (filled index b : ℕ) → IsUnfolding text old new filled index → index < length text
    → length text ≤ length old → fold_length (drop index text) ≡ 0 → b ≡ slice_index_or text index 0
    → IsUnfolding text old (slice_set new filled b) (filled + 1) (index + 1)
one_byte text old new filled index b h less room e same =
    let c = slice_index_or text index 0 in
    let bs = drop (index + 1) text in
    let here : drop index text ≡ c ∷ bs = at_index text index 0 less in
    let more : (left : List ℕ) → take filled new ++ (c ∷ left) ≡ take (filled + 1) (slice_set new filled b) ++ left = λ left.
    ap (λ x. take filled new ++ (x ∷ left)) (sym same)
    ∙ sym (append_assoc (take filled new) (b ∷ []) left)
    ∙ sym (ap (λ front. front ++ left) (take-set_at new filled (filled + 1) b refl (omega (arith, h.few, h.size, less, room)))) in
    record {
      joined = λ left its. subst (IsUnfolded text) (more left)
          (h.joined (c ∷ left) (subst (λ bytes. IsUnfolded bytes (c ∷ left)) (sym here) (a_byte c bs left (sym (ap fold_length here) ∙ e) its)));
      rest =
          drop-set-lt (filled + 1) new filled b (omega arith) ∙ sym (drop-drop 1 filled new) ∙ ap (drop 1) h.rest ∙ drop-drop 1 filled old;
      few = omega (arith, h.few);
      within = omega (arith, h.few, less);
      size = length-set new filled b ∙ h.size;
    }

pub all_unfolded : (text old new : List ℕ) (filled index : ℕ) → IsUnfolding text old new filled index → length text ≤ index
    → IsUnfolded text (take filled new)
all_unfolded text old new filled index h all =
    subst (IsUnfolded text) (append-nil (take filled new)) (h.joined [] (subst (λ bytes. IsUnfolded bytes []) (sym (drop_all index text all)) no_byte))

-- ---- one answer
pub one_unfolded : (text a b : List ℕ) → IsUnfolded text a → IsUnfolded text b → a ≡ b
one_unfolded text a b no_byte no_byte = refl
one_unfolded text a b no_byte (a_fold _ _ some k) = absurd (omega (arith, some))
one_unfolded text a b (a_byte x xs rest e h) (a_byte _ _ others f k) = ap (λ left. x ∷ left) (one_unfolded xs rest others h k)
one_unfolded text a b (a_byte x xs rest e h) (a_fold _ _ some k) = absurd (omega (arith, e, some))
one_unfolded text a b (a_fold _ _ some h) no_byte = absurd (omega (arith, some))
one_unfolded text a b (a_fold _ _ some h) (a_byte _ _ _ e k) = absurd (omega (arith, e, some))
one_unfolded text a b (a_fold _ _ some h) (a_fold _ _ more k) = one_unfolded (drop (fold_length text) text) a b h k

any-unfolded : (n : ℕ) (text : List ℕ) → length text ≤ n → (a : List ℕ) × IsUnfolded text a
any-unfolded n [] few = ([], no_byte)
any-unfolded zero (b ∷ bs) few = absurd (omega (arith, few))
any-unfolded (suc n) (b ∷ bs) few =
    let text = b ∷ bs in
    elim (cases_lt 0 (fold_length text)) [
      | inl some ↦
          let left = any-unfolded n (drop (fold_length text) text) (omega (arith, few, some, length-drop (fold_length text) text)) in
          (left.0, a_fold text left.0 some left.1)
      | inr none ↦ let left = any-unfolded n bs (omega (arith, few)) in (b ∷ left.0, a_byte b bs left.0 (omega (arith, none)) left.1)
    ]

pub some_unfolded : (text : List ℕ) → (a : List ℕ) × IsUnfolded text a
some_unfolded text = any-unfolded (length text) text (omega arith)

-- a call of `unfold` copied the text without its folds, or the buffer is too short
abbrev pub IsCopy : List ℕ → List ℕ → List ℕ → Option ℕ → Type 0
IsCopy text old new result = MatchOption result (length old < length text) (λ n.
    (length text ≤ length old) × (n ≤ length new) × IsUnfolded text (take n new) × (drop n new ≡ drop n old))

pub one_copy : (text a b c d : List ℕ) (r q : Option ℕ) → length a ≡ length b → IsCopy text a c r → IsCopy text b d q
    → (r ≡ q) × IfSome r (λ n. take n c ≡ take n d)
one_copy text a b c d None None size h k = (refl, tt)
one_copy text a b c d None (Some m) size h k = absurd (omega (arith, h, k.0, size))
one_copy text a b c d (Some n) None size h k = absurd (omega (arith, h.0, k, size))
one_copy text a b c d (Some n) (Some m) size h k =
    let same : take n c ≡ take m d = one_unfolded text (take n c) (take m d) h.2 k.2 in
    let long : n ≡ m = omega (arith, ap length same, length-take n c, length-take m d, h.1, k.1) in
    (ap Some long, same ∙ ap (λ j. take j d) (sym long))

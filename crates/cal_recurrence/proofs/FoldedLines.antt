-- A text that is copied with folds, step by step, and unfolded again.
use Rattle.std.proofs.Common.{◌≡◌, ℕ, ◌+◌, ◌<◌, ◌≤◌, Bool, true, false, cond, eqb, not, List, [], ◌∷◌, ◌++◌, append-nil, append_assoc, length, length-append, take, drop, slice_index_or, Some, inl, inr, refl, sym, ap, subst, ◌∙◌, arith}
use Rattle.std.specs.Prelude.{◌⊎◌, ◌↔◌, ◌&&◌, nat_le, slice_index}
use Rattle.std.proofs.lemmas.Bool.{and_parts, and_right, cases_Bool, eqb-true, true≢false}
use Rattle.std.proofs.lemmas.List.{drop_all}
use Rattle.cal_recurrence.specs.Buffers.{IsPut}
use Rattle.cal_recurrence.specs.Folding.{fold_length, is_blank, is_line_end, IsUnfolded}
use Rattle.cal_recurrence.specs.Folding.IsUnfolded.{end as no_byte, byte as a_byte, fold as a_fold}
use Rattle.cal_recurrence.proofs.Marked.{at_index}
use Rattle.cal_recurrence.proofs.Puts.{then_put}
use Rattle.cal_recurrence.proofs.Unfolding.{one_unfolded, some_unfolded}

-- ---- folds, byte by byte
-- a fold comes before a byte after the first 75 of its line, unless the line ends there
abbrev pub fold_before : ℕ → List ℕ → Bool
fold_before column bytes = nat_le 75 column && not (is_line_end bytes)

abbrev pub first_folded : ℕ → List ℕ → List ℕ
first_folded column bytes = cond (fold_before column bytes) (13 ∷ 10 ∷ 32 ∷ take 1 bytes) (take 1 bytes)

-- the number of bytes in the line after that byte
abbrev pub column_after : ℕ → List ℕ → ℕ
column_after column bytes = cond (fold_before column bytes) 2 (cond (eqb (slice_index bytes 0) 10) 0 (column + 1))

-- bytes after `column` bytes of their line, with folds
abbrev pub folded_after : ℕ → List ℕ → List ℕ
folded_after column [] = []
folded_after column (b ∷ bs) = first_folded column (b ∷ bs) ++ folded_after (column_after column (b ∷ bs)) bs

abbrev pub folded_of : List ℕ → List ℕ
folded_of text = folded_after 0 text

-- ---- the loop
-- the first `filled` bytes and what is left of the text from an index on, with folds, are the text
-- with folds, and the other bytes are the old ones
pub record IsFolding (text old new : List ℕ) (filled index column : ℕ) : Type 0 where
  pub done : List ℕ
  pub put : IsPut 0 done old new (Some filled)
  pub joined : done ++ folded_after column (drop index text) ≡ folded_of text
  pub size : length new ≡ length old
  pub few : column ≤ index + 1

next-byte : (text : List ℕ) (index column : ℕ) → index < length text
    → folded_after column (drop index text) ≡ first_folded column (drop index text) ++ folded_after (column_after column (drop index text)) (drop (index + 1) text)
next-byte text index column less =
    let b = slice_index_or text index 0 in
    let bs = drop (index + 1) text in
    let here : drop index text ≡ b ∷ bs = at_index text index 0 less in
    ap (folded_after column) here ∙ ap (λ bytes. first_folded column bytes ++ folded_after (column_after column bytes) bs) (sym here)

column-few : (column : ℕ) (bytes : List ℕ) → column_after column bytes ≤ column + 1 ⊎ column_after column bytes ≡ 2
column-few column bytes =
    elim (cases_Bool (fold_before column bytes)) [
      | inl folds ↦ inr (ap (λ b. cond b 2 (cond (eqb (slice_index bytes 0) 10) 0 (column + 1))) folds)
      | inr stays ↦ inl (subst (λ b. cond b 2 (cond (eqb (slice_index bytes 0) 10) 0 (column + 1)) ≤ column + 1) (sym stays) (few (eqb (slice_index bytes 0) 10)))
    ]
  where
    few : (b : Bool) → cond b 0 (column + 1) ≤ column + 1
    few true = omega arith
    few false = omega arith

pub one_byte : (text old mid new : List ℕ) (filled next index column : ℕ) → IsFolding text old mid filled index column → index < length text
    → IsPut filled (first_folded column (drop index text)) mid new (Some next) → length new ≡ length mid
    → IsFolding text old new next (index + 1) (column_after column (drop index text))
one_byte text old mid new filled next index column h less put size =
    let more = first_folded column (drop index text) in
    record {
      done = h.done ++ more;
      put = then_put 0 filled h.done more (h.done ++ more) old mid new (Some next) h.size h.put put refl;
      joined = append_assoc h.done more _ ∙ ap (λ rest. h.done ++ rest) (sym (next-byte text index column less)) ∙ h.joined;
      size = size ∙ h.size;
      few = omega (arith, h.few, column-few column (drop index text));
    }

pub too_short : (text old mid : List ℕ) (filled index column : ℕ) → IsFolding text old mid filled index column → index < length text
    → length mid < filled + length (first_folded column (drop index text)) → length old < 0 + length (folded_of text)
too_short text old mid filled index column h less few =
    let more = first_folded column (drop index text) in
    let left = folded_after (column_after column (drop index text)) (drop (index + 1) text) in
    omega (arith, few, h.put.0, h.size, ap length h.joined, length-append h.done (folded_after column (drop index text)), ap length (next-byte text index column less), length-append more left)

pub all_folded : (text old new : List ℕ) (filled index column : ℕ) → IsFolding text old new filled index column → length text ≤ index
    → IsPut 0 (folded_of text) old new (Some filled)
all_folded text old new filled index column h all =
    let whole : h.done ≡ folded_of text = sym (append-nil h.done) ∙ ap (λ bytes. h.done ++ folded_after column bytes) (sym (drop_all index text all)) ∙ h.joined in
    subst (λ t. IsPut 0 t old new (Some filled)) whole h.put

-- ---- unfolding
and-both : (a b c : Bool) → a && b ≡ false → a && (b && c) ≡ false
and-both true true c h = absurd (true≢false h)
and-both true false c h = refl
and-both false b c h = refl

no-fold : (b : ℕ) (bs : List ℕ) → eqb b 10 ≡ false → eqb b 13 && eqb (slice_index bs 0) 10 ≡ false → fold_length (b ∷ bs) ≡ 0
no-fold b bs e f =
    rw (e, and-both (eqb b 13) (eqb (slice_index bs 0) 10) (is_blank (slice_index bs 1)) f) refl

-- a line feed begins a line, before which no fold comes
pub line-stays : (column : ℕ) (bs : List ℕ) → fold_before column (10 ∷ bs) ≡ false
line-stays column bs = and_right (nat_le 75 column) false refl

pub stays : (column b : ℕ) (bs : List ℕ) → fold_before column (b ∷ bs) ≡ false → folded_after column (b ∷ bs) ≡ b ∷ folded_after (column_after column (b ∷ bs)) bs
stays column b bs e = ap (λ t. cond t (13 ∷ 10 ∷ 32 ∷ b ∷ []) (b ∷ []) ++ folded_after (column_after column (b ∷ bs)) bs) e

pub line : (column : ℕ) (bs : List ℕ) → folded_after column (10 ∷ bs) ≡ 10 ∷ folded_after 0 bs
line column bs = stays column 10 bs (line-stays column bs) ∙ ap (λ t. 10 ∷ folded_after (cond t 2 0) bs) (line-stays column bs)

-- the bytes after a byte begin no fold with it, if they began none before
after-line : (bs : List ℕ) → fold_length (10 ∷ bs) ≡ 0 → fold_length (10 ∷ folded_after 0 bs) ≡ 0
after-line [] e = refl
after-line (c ∷ cs) e = e

after-return : (n : ℕ) (cs : List ℕ) → fold_length (13 ∷ 10 ∷ cs) ≡ 0 → fold_length (13 ∷ folded_after n (10 ∷ cs)) ≡ 0
after-return n cs e = ap (λ bytes. fold_length (13 ∷ bytes)) (line n cs) ∙ within cs e
  where
    within : (cs : List ℕ) → fold_length (13 ∷ 10 ∷ cs) ≡ 0 → fold_length (13 ∷ 10 ∷ folded_after 0 cs) ≡ 0
    within [] e = refl
    within (d ∷ ds) e = e

first-other : (n c : ℕ) (cs : List ℕ) → eqb c 10 ≡ false → eqb (slice_index (folded_after n (c ∷ cs)) 0) 10 ≡ false
first-other n c cs e = either (fold_before n (c ∷ cs)) (folded_after (column_after n (c ∷ cs)) cs)
  where
    either : (t : Bool) (bytes : List ℕ) → eqb (slice_index (cond t (13 ∷ 10 ∷ 32 ∷ c ∷ []) (c ∷ []) ++ bytes) 0) 10 ≡ false
    either true bytes = refl
    either false bytes = e

after-other : (b n : ℕ) (bs : List ℕ) → eqb b 10 ≡ false → fold_length (b ∷ bs) ≡ 0 → fold_length (b ∷ folded_after n bs) ≡ 0
after-other b n [] other e = e
after-other b n (c ∷ cs) other e =
    elim (cases_Bool (eqb c 10)) [
      | inl feed ↦
          let ten : c ≡ 10 = eqb-true c 10 feed in
          elim (cases_Bool (eqb b 13)) [
            | inl return ↦
                let same : b ≡ 13 = eqb-true b 13 return in
                ap (λ x. fold_length (x ∷ folded_after n (c ∷ cs))) same ∙ ap (λ x. fold_length (13 ∷ folded_after n (x ∷ cs))) ten
                ∙ after-return n cs (sym (ap (λ x. fold_length (x ∷ c ∷ cs)) same ∙ ap (λ x. fold_length (13 ∷ x ∷ cs)) ten) ∙ e)
            | inr plain ↦ no-fold b (folded_after n (c ∷ cs)) other (ap (λ t. t && eqb (slice_index (folded_after n (c ∷ cs)) 0) 10) plain)
          ]
      | inr plain ↦ no-fold b (folded_after n (c ∷ cs)) other (ap (λ t. eqb b 13 && t) (first-other n c cs plain) ∙ and_right (eqb b 13) false refl)
    ]

after-byte : (column b : ℕ) (bs : List ℕ) → fold_length (b ∷ bs) ≡ 0 → fold_length (b ∷ folded_after (column_after column (b ∷ bs)) bs) ≡ 0
after-byte column b bs e =
    elim (cases_Bool (eqb b 10)) [
      | inl feed ↦
          let ten : b ≡ 10 = eqb-true b 10 feed in
          ap (λ x. fold_length (x ∷ folded_after (column_after column (x ∷ bs)) bs)) ten
          ∙ ap (λ t. fold_length (10 ∷ folded_after (cond t 2 0) bs)) (line-stays column bs)
          ∙ after-line bs (sym (ap (λ x. fold_length (x ∷ bs)) ten) ∙ e)
      | inr other ↦ after-other b (column_after column (b ∷ bs)) bs other e
    ]

-- a fold stays, and folds come after it
abbrev Stays : ℕ → List ℕ → ℕ → Type 0
Stays column text n =
    (m : ℕ) × (drop n (folded_after column text) ≡ folded_after m (drop n text)) × (fold_length (folded_after column text) ≡ n) × (fold_length text ≡ n)

two-stay : (column c : ℕ) (cs : List ℕ) → is_blank c ≡ true → Stays column (10 ∷ c ∷ cs) 2
two-stay column c cs blank =
    let m = column_after 0 (c ∷ cs) in
    let two : cond (is_blank c) 2 0 ≡ 2 = ap (λ t. cond t 2 0) blank in
    (m, ap (drop 2) (line column (c ∷ cs)), ap fold_length (line column (c ∷ cs)) ∙ two, two)

three-stay : (column c : ℕ) (cs : List ℕ) → is_blank c ≡ true → Stays column (13 ∷ 10 ∷ c ∷ cs) 3
three-stay column c cs blank =
    let plain : fold_before column (13 ∷ 10 ∷ c ∷ cs) ≡ false = and_right (nat_le 75 column) false refl in
    let n = column_after column (13 ∷ 10 ∷ c ∷ cs) in
    let three : cond (is_blank c) 3 0 ≡ 3 = ap (λ t. cond t 3 0) blank in
    let whole : folded_after column (13 ∷ 10 ∷ c ∷ cs) ≡ 13 ∷ 10 ∷ c ∷ folded_after (column_after 0 (c ∷ cs)) cs =
    stays column 13 (10 ∷ c ∷ cs) plain ∙ ap (λ bytes. 13 ∷ bytes) (line n (c ∷ cs)) in
    (column_after 0 (c ∷ cs), ap (drop 3) whole, ap fold_length whole ∙ three, three)

fold-stays : (column : ℕ) (text : List ℕ) → 0 < fold_length text → Stays column text (fold_length text)
fold-stays column [] some = absurd (omega (arith, some))
fold-stays column (b ∷ []) some =
    let none : fold_length (b ∷ []) ≡ 0 = rw (and_right (eqb b 10) false refl, and_right (eqb b 13) false refl) refl in
    absurd (omega (arith, some, none))
fold-stays column (b ∷ c ∷ cs) some =
    let text = b ∷ c ∷ cs in
    elim (cases_Bool (eqb b 10 && is_blank c)) [
      | inl two ↦
          let both = and_parts (eqb b 10) (is_blank c) two in
          found 2 (subst (λ x. Stays column (x ∷ c ∷ cs) 2) (sym (eqb-true b 10 both.0)) (two-stay column c cs both.1))
      | inr other ↦ elim (cases_Bool (eqb b 13 && (eqb c 10 && is_blank (slice_index cs 0)))) [
        | inl three ↦
            let both = and_parts (eqb b 13) _ three in
            let last = and_parts (eqb c 10) (is_blank (slice_index cs 0)) both.1 in
            found 3 (subst (λ x. Stays column (x ∷ c ∷ cs) 3) (sym (eqb-true b 13 both.0))
            (subst (λ x. Stays column (13 ∷ x ∷ cs) 3) (sym (eqb-true c 10 last.0)) (after cs last.1)))
        | inr none ↦
            let plain : fold_length text ≡ 0 = rw (other, none) refl in
            absurd (omega (arith, some, plain))
      ]
    ]
  where
    found : (n : ℕ) → Stays column (b ∷ c ∷ cs) n → Stays column (b ∷ c ∷ cs) (fold_length (b ∷ c ∷ cs))
    found n its = subst (Stays column (b ∷ c ∷ cs)) (sym its.3) its

    after : (ds : List ℕ) → is_blank (slice_index ds 0) ≡ true → Stays column (13 ∷ 10 ∷ ds) 3
    after [] blank = absurd (true≢false (sym blank))
    after (d ∷ ds) blank = three-stay column d ds blank

same-unfolded : (column : ℕ) (text unfolded : List ℕ) → IsUnfolded text unfolded → IsUnfolded (folded_after column text) unfolded
same-unfolded column text unfolded no_byte = no_byte
same-unfolded column text unfolded (a_byte b bs rest e h) =
    let n = column_after column (b ∷ bs) in
    either (fold_before column (b ∷ bs)) b (folded_after n bs) rest (a_byte b (folded_after n bs) rest (after-byte column b bs e) (same-unfolded n bs rest h))
  where
    either : (t : Bool) (b : ℕ) (bytes rest : List ℕ) → IsUnfolded (b ∷ bytes) (b ∷ rest) → IsUnfolded (cond t (13 ∷ 10 ∷ 32 ∷ b ∷ []) (b ∷ []) ++ bytes) (b ∷ rest)
    either true b bytes rest h = a_fold (13 ∷ 10 ∷ 32 ∷ b ∷ bytes) (b ∷ rest) (omega arith) h
    either false b bytes rest h = h
same-unfolded column text unfolded (a_fold _ _ some h) =
    let n = fold_length text in
    let its = fold-stays column text some in
    let past : drop (fold_length (folded_after column text)) (folded_after column text) ≡ folded_after its.0 (drop n text) =
    ap (λ k. drop k (folded_after column text)) its.2 ∙ its.1 in
    a_fold (folded_after column text) unfolded (omega (arith, its.2, some)) (subst (λ bytes. IsUnfolded bytes unfolded) (sym past) (same-unfolded its.0 (drop n text) unfolded h))

pub unfolds : (text old new : List ℕ) (filled index column : ℕ) → IsFolding text old new filled index column → length text ≤ index
    → (unfolded : List ℕ) → (IsUnfolded (take filled new) unfolded ↔ IsUnfolded text unfolded)
unfolds text old new filled index column h all unfolded =
    let whole : take filled new ≡ folded_of text = (all_folded text old new filled index column h all).2 in
    let its = some_unfolded text in
    let same : IsUnfolded (take filled new) its.0 = subst (λ bytes. IsUnfolded bytes its.0) (sym whole) (same-unfolded 0 text its.0 its.1) in (
      λ k. subst (IsUnfolded text) (one_unfolded (take filled new) its.0 unfolded same k) its.1,
      λ k. subst (λ bytes. IsUnfolded bytes unfolded) (sym whole) (same-unfolded 0 text unfolded k),
    )

-- The first lines of a text.
use Rattle.std.proofs.Common.{◌≡◌, ℕ, ◌+◌, true, false, eqb, List, [], ◌∷◌, ◌++◌, length, take, refl, sym, ap, ◌∙◌, inl, inr, add-one, arith}
use Rattle.std.specs.List.{onto_first}
use Rattle.std.proofs.lemmas.Bool.{cases_Bool}
use Rattle.std.proofs.lemmas.List.Splits.{slice_split-cons_no, slice_split-cons_yes}
use Rattle.cal_recurrence.specs.SetText.{size_of}
use Rattle.cal_recurrence.specs.Words.{parts_at}

take-one : (n m x : ℕ) (xs : List ℕ) → m ≡ n + 1 → take m (x ∷ xs) ≡ x ∷ take n xs
take-one n m x xs e = rw (e, add-one) refl

-- the parts of the first bytes are these, and then an empty one
abbrev Fronts : List ℕ → Type 0
Fronts xs = (done : List (List ℕ)) (next : List ℕ) (more : List (List ℕ)) → parts_at 10 xs ≡ done ++ next ∷ more → parts_at 10 (take (size_of done) xs) ≡ done ++ [] ∷ []

at-feed : (x : ℕ) (xs d : List ℕ) (ds : List (List ℕ)) (next : List ℕ) (more : List (List ℕ)) → eqb x 10 ≡ true → Fronts xs → parts_at 10 (x ∷ xs) ≡ d ∷ (ds ++ next ∷ more)
    → parts_at 10 (take (size_of (d ∷ ds)) (x ∷ xs)) ≡ d ∷ (ds ++ [] ∷ [])
at-feed x xs d ds next more feed fronts e =
    let both : [] ∷ parts_at 10 xs ≡ d ∷ (ds ++ next ∷ more) = sym (slice_split-cons_yes (λ b. eqb b 10) x xs feed) ∙ e in
    let first : [] ≡ d = cc in
    let others : parts_at 10 xs ≡ ds ++ next ∷ more = cc in
    ap (parts_at 10) (take-one (size_of ds) (size_of (d ∷ ds)) x xs (omega (arith, ap length first))) ∙ slice_split-cons_yes (λ b. eqb b 10) x (take (size_of ds) xs) feed
    ∙ ap (λ parts. [] ∷ parts) (fronts ds next more others) ∙ ap (λ part. part ∷ (ds ++ [] ∷ [])) first

at-byte : (x : ℕ) (xs d : List ℕ) (ds : List (List ℕ)) (next : List ℕ) (more : List (List ℕ)) → eqb x 10 ≡ false → Fronts xs → parts_at 10 (x ∷ xs) ≡ d ∷ (ds ++ next ∷ more)
    → parts_at 10 (take (size_of (d ∷ ds)) (x ∷ xs)) ≡ d ∷ (ds ++ [] ∷ [])
at-byte x xs d ds next more other fronts e = by (parts_at 10 xs) refl
  where
    none : (ds : List (List ℕ)) → [] ≡ ds ++ next ∷ more → ⊥
    none [] h = absurd (cc)
    none (c ∷ cs) h = absurd (cc)

    by : (parts : List (List ℕ)) → parts_at 10 xs ≡ parts → parts_at 10 (take (size_of (d ∷ ds)) (x ∷ xs)) ≡ d ∷ (ds ++ [] ∷ [])
    by [] h =
        let both : (x ∷ []) ∷ [] ≡ d ∷ (ds ++ next ∷ more) = sym (ap (onto_first x) h) ∙ sym (slice_split-cons_no (λ b. eqb b 10) x xs other) ∙ e in
        absurd (none ds (cc))
    by (q ∷ qs) h =
        let both : (x ∷ q) ∷ qs ≡ d ∷ (ds ++ next ∷ more) = sym (ap (onto_first x) h) ∙ sym (slice_split-cons_no (λ b. eqb b 10) x xs other) ∙ e in
        let first : x ∷ q ≡ d = cc in
        let others : qs ≡ ds ++ next ∷ more = cc in
        ap (parts_at 10) (take-one (size_of (q ∷ ds)) (size_of (d ∷ ds)) x xs (omega (arith, ap length first))) ∙ slice_split-cons_no (λ b. eqb b 10) x (take (size_of (q ∷ ds)) xs) other
        ∙ ap (onto_first x) (fronts (q ∷ ds) next more (h ∙ ap (λ parts. q ∷ parts) others)) ∙ ap (λ part. part ∷ (ds ++ [] ∷ [])) first

-- the first lines of a text with their line feeds, and then nothing
pub front-parts : (text : List ℕ) → Fronts text
front-parts text [] next more e = refl
front-parts [] (d ∷ ds) next more e = absurd (none ds (cc))
  where
    none : (ds : List (List ℕ)) → [] ≡ ds ++ next ∷ more → ⊥
    none [] h = absurd (cc)
    none (c ∷ cs) h = absurd (cc)
front-parts (x ∷ xs) (d ∷ ds) next more e =
    elim (cases_Bool (eqb x 10)) [
      | inl feed ↦ at-feed x xs d ds next more feed (λ done last others. front-parts xs done last others) e
      | inr other ↦ at-byte x xs d ds next more other (λ done last others. front-parts xs done last others) e
    ]

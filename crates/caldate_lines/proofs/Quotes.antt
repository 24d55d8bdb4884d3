-- The parts of a record outside of its quotes.
use Rattle.std.proofs.Common.{◌≡◌, ◌⊎◌, inl, inr, eq-eqb, ℕ, ◌+◌, ◌<◌, Bool, true, false, cond, eqb, List, [], ◌∷◌, ◌++◌, length, take, drop, get_or, refl, sym, ap, ◌∙◌, add-one, append_assoc, arith, take-append-drop}
use Rattle.std.specs.Prelude.{not, ◌&&◌, All}
use Rattle.std.specs.List.{onto_first}
use Rattle.std.proofs.Math.Seq.{drop-cons, take-length}
use Rattle.std.proofs.lemmas.Bool.{false≢true, ne_eqb}
use Rattle.std.proofs.lemmas.List.{append-nil, take_more}
use Rattle.std.proofs.lemmas.List.Elements.{All-head, All-tail}
use Rattle.caldate_lines.specs.Fields.{is_open, is_quote, quoting_after, quoting_past, split_outside_quotes}
use Rattle.caldate_lines.specs.RunStates.{onto}
use Rattle.caldate_lines.specs.declared.quoting.Quoting.{Quoting}
use Rattle.caldate_lines.specs.declared.quoting.Quoting.TheVariants.{Off, Ready, Open, Bare}

pub onto_more : (xs : List ℕ) (x : ℕ) (parts : List (List ℕ)) → onto (xs ++ x ∷ []) parts ≡ onto xs (onto_first x parts)
onto_more [] x parts = refl
onto_more (y ∷ ys) x parts = ap (onto_first y) (onto_more ys x parts)

pub onto_one : (xs part : List ℕ) (parts : List (List ℕ)) → onto xs (part ∷ parts) ≡ (xs ++ part) ∷ parts
onto_one [] part parts = refl
onto_one (x ∷ xs) part parts = ap (onto_first x) (onto_one xs part parts)

pub onto_some : (x : ℕ) (parts : List (List ℕ)) → 0 < length (onto_first x parts)
onto_some x [] = omega arith
onto_some x (part ∷ parts) = omega arith

-- ---- one byte
abbrev Splits : ℕ → ℕ → Quoting → Quoting → ℕ → List ℕ → Bool → List (List ℕ)
Splits e c s q x xs ends = cond ends ([] ∷ split_outside_quotes e c s s xs) (onto_first x (split_outside_quotes e c s (quoting_after c q x) xs))

pub goes : (e c : ℕ) (s q : Quoting) (x : ℕ) (xs : List ℕ) → (eqb x e && not (is_open q)) ≡ false
    → split_outside_quotes e c s q (x ∷ xs) ≡ onto_first x (split_outside_quotes e c s (quoting_after c q x) xs)
goes e c s q x xs h = ap (Splits e c s q x xs) h

pub stops : (e c : ℕ) (s q : Quoting) (x : ℕ) (xs : List ℕ) → (eqb x e && not (is_open q)) ≡ true
    → split_outside_quotes e c s q (x ∷ xs) ≡ [] ∷ split_outside_quotes e c s s xs
stops e c s q x xs h = ap (Splits e c s q x xs) h

calm : (e x : ℕ) (q : Quoting) → eqb x e ≡ false → (eqb x e && not (is_open q)) ≡ false
calm e x q h = ap (λ t. t && not (is_open q)) h

-- ---- how far the first part goes at least
abbrev pub Goes : ℕ → ℕ → Quoting → Quoting → List ℕ → ℕ → Quoting → Type 0
Goes e c s start text i q = (more : List ℕ) → split_outside_quotes e c s start (take i text ++ more) ≡ onto (take i text) (split_outside_quotes e c s q more)

rest_is : (text : List ℕ) (i : ℕ) → i < length text → drop i text ≡ get_or text i 0 ∷ drop (i + 1) text
rest_is text i h = drop-cons text i 0 h ∙ ap (λ k. get_or text i 0 ∷ drop k text) (sym (add-one i))

pub goes_on : (e c : ℕ) (s start : Quoting) (text : List ℕ) (i : ℕ) (q : Quoting) → i < length text → (eqb (get_or text i 0) e && not (is_open q)) ≡ false
    → Goes e c s start text i q → Goes e c s start text (i + 1) (quoting_after c q (get_or text i 0))
goes_on e c s start text i q h test before = λ more.
    let b = get_or text i 0 in
    let front = take_more text i 0 h in
    ap (λ t. split_outside_quotes e c s start (t ++ more)) front ∙ ap (split_outside_quotes e c s start) (append_assoc (take i text) (b ∷ []) more)
    ∙ before (b ∷ more) ∙ ap (onto (take i text)) (goes e c s q b more test)
    ∙ sym (onto_more (take i text) b (split_outside_quotes e c s (quoting_after c q b) more))
    ∙ ap (λ t. onto t (split_outside_quotes e c s (quoting_after c q b) more)) (sym front)

pub found : (e c : ℕ) (s start : Quoting) (text : List ℕ) (i : ℕ) (q : Quoting) → i < length text → get_or text i 0 ≡ e → (eqb (get_or text i 0) e && not (is_open q)) ≡ true
    → Goes e c s start text i q
    → (i < length text) × ((more : List ℕ) → split_outside_quotes e c s start (text ++ more) ≡ take i text ∷ split_outside_quotes e c s s (drop (i + 1) text ++ more))
    × (text ≡ take i text ++ e ∷ drop (i + 1) text)
found e c s start text i q h is test before =
    let b = get_or text i 0 in
    let after = drop (i + 1) text in
    let whole : text ≡ take i text ++ b ∷ after = sym (take-append-drop i text) ∙ ap (λ l. take i text ++ l) (rest_is text i h) in (
      h,
      λ more. ap (λ t. split_outside_quotes e c s start (t ++ more)) whole ∙ ap (split_outside_quotes e c s start) (append_assoc (take i text) (b ∷ after) more)
          ∙ before (b ∷ (after ++ more)) ∙ ap (onto (take i text)) (stops e c s q b (after ++ more) test)
          ∙ onto_one (take i text) [] (split_outside_quotes e c s s (after ++ more)) ∙ ap (λ l. l ∷ split_outside_quotes e c s s (after ++ more)) (append-nil (take i text)),
      whole ∙ ap (λ x. take i text ++ x ∷ after) is,
    )

pub ends : (e c : ℕ) (s start : Quoting) (text : List ℕ) (q : Quoting) → Goes e c s start text (length text) q → split_outside_quotes e c s start text ≡ text ∷ []
ends e c s start text q before =
    let all = take-length text in
    ap (split_outside_quotes e c s start) (sym (append-nil text) ∙ ap (λ t. t ++ []) (sym all)) ∙ before [] ∙ ap (λ t. onto t ([] ∷ [])) all
    ∙ onto_one text [] [] ∙ ap (λ l. l ∷ []) (append-nil text)

-- ---- the test of the loop
pub not_end : (e x : ℕ) (q : Quoting) → ((x ≡ e) × (is_open q ≡ true)) ⊎ (x ≡ e → ⊥) → (eqb x e && not (is_open q)) ≡ false
not_end e x q (inl h) = ap (λ t. t && not (is_open q)) (eq-eqb x e h.0) ∙ ap not h.1
not_end e x q (inr h) = calm e x q (ne_eqb x e h)

-- ---- bytes of a field
pub closed : (e x : ℕ) (q : Quoting) → eqb x e ≡ true → is_open q ≡ false → (eqb x e && not (is_open q)) ≡ true
closed e x q is shut = ap (λ t. t && not (is_open q)) is ∙ ap not shut

abbrev pub is_off : Quoting → Bool
is_off Off = true
is_off quoting = false

-- the bytes end no part, and end outside of quotes
pub record Passes (e c : ℕ) (s start : Quoting) (xs : List ℕ) : Type 0 where
  pub state : Quoting
  pub closed : is_open state ≡ false
  pub on : is_off start ≡ false → is_off state ≡ false
  pub parts : (more : List ℕ) → split_outside_quotes e c s start (xs ++ more) ≡ onto xs (split_outside_quotes e c s state more)

pub ends_after : (e c : ℕ) (s start : Quoting) (xs more : List ℕ) → Passes e c s start xs → split_outside_quotes e c s start (xs ++ e ∷ more) ≡ xs ∷ split_outside_quotes e c s s more
ends_after e c s start xs more h =
    h.parts (e ∷ more) ∙ ap (onto xs) (stops e c s h.state e more (closed e e h.state (eq-eqb e e refl) h.closed))
    ∙ onto_one xs [] (split_outside_quotes e c s s more) ∙ ap (λ l. l ∷ split_outside_quotes e c s s more) (append-nil xs)

pub ends_last : (e c : ℕ) (s start : Quoting) (xs : List ℕ) → Passes e c s start xs → split_outside_quotes e c s start xs ≡ xs ∷ []
ends_last e c s start xs h =
    ap (split_outside_quotes e c s start) (sym (append-nil xs)) ∙ h.parts [] ∙ onto_one xs [] [] ∙ ap (λ l. l ∷ []) (append-nil xs)

-- in the rest of a field, a quote is an ordinary byte
in_bare : (e c : ℕ) (s : Quoting) (xs more : List ℕ) → All (λ x. eqb x e ≡ false) xs → All (λ x. eqb x c ≡ false) xs
    → split_outside_quotes e c s Bare (xs ++ more) ≡ onto xs (split_outside_quotes e c s Bare more)
in_bare e c s [] more h k = refl
in_bare e c s (x ∷ xs) more h k =
    goes e c s Bare x (xs ++ more) (calm e x Bare (All-head (λ x. eqb x e ≡ false) x xs h))
    ∙ ap (λ b. onto_first x (split_outside_quotes e c s (cond b Ready Bare) (xs ++ more))) (All-head (λ x. eqb x c ≡ false) x xs k)
    ∙ ap (onto_first x) (in_bare e c s xs more (All-tail (λ x. eqb x e ≡ false) x xs h) (All-tail (λ x. eqb x c ≡ false) x xs k))

pub bare_passes : (e c : ℕ) (s : Quoting) (xs : List ℕ) → is_quote (get_or xs 0 0) ≡ false → All (λ x. eqb x e ≡ false) xs → All (λ x. eqb x c ≡ false) xs → Passes e c s Ready xs
bare_passes e c s [] first h k = record { state = Ready; closed = refl; on = λ h. h; parts = λ more. refl }
bare_passes e c s (x ∷ xs) first h k = record {
  state = Bare;
  closed = refl;
  on = λ h. refl;
  parts = λ more. goes e c s Ready x (xs ++ more) (calm e x Ready (All-head (λ x. eqb x e ≡ false) x xs h))
      ∙ ap (λ b. onto_first x (split_outside_quotes e c s (cond b Open (cond (eqb x c) Ready Bare)) (xs ++ more))) first
      ∙ ap (λ b. onto_first x (split_outside_quotes e c s (cond b Ready Bare) (xs ++ more))) (All-head (λ x. eqb x c ≡ false) x xs k)
      ∙ ap (onto_first x) (in_bare e c s xs more (All-tail (λ x. eqb x e ≡ false) x xs h) (All-tail (λ x. eqb x c ≡ false) x xs k));
}

-- ---- bytes of which none ends a part
pub passes_all : (e c : ℕ) (s q : Quoting) (xs more : List ℕ) → All (λ x. eqb x e ≡ false) xs
    → split_outside_quotes e c s q (xs ++ more) ≡ onto xs (split_outside_quotes e c s (quoting_past c q xs) more)
passes_all e c s q [] more h = refl
passes_all e c s q (x ∷ xs) more h =
    goes e c s q x (xs ++ more) (calm e x q (All-head (λ x. eqb x e ≡ false) x xs h))
    ∙ ap (onto_first x) (passes_all e c s (quoting_after c q x) xs more (All-tail (λ x. eqb x e ≡ false) x xs h))

stays_closed : (c x : ℕ) (q : Quoting) → is_quote x ≡ false → is_open q ≡ false → is_open (quoting_after c q x) ≡ false
stays_closed c x Off h k = refl
stays_closed c x Ready h k = ap (λ b. is_open (cond b Open (cond (eqb x c) Ready Bare))) h ∙ either (eqb x c)
  where
    either : (b : Bool) → is_open (cond b Ready Bare) ≡ false
    either true = refl
    either false = refl
stays_closed c x Bare h k = either (eqb x c)
  where
    either : (b : Bool) → is_open (cond b Ready Bare) ≡ false
    either true = refl
    either false = refl
stays_closed c x Open h k = absurd (false≢true (sym k))

closed_past : (c : ℕ) (q : Quoting) (xs : List ℕ) → All (λ x. is_quote x ≡ false) xs → is_open q ≡ false → is_open (quoting_past c q xs) ≡ false
closed_past c q [] h k = k
closed_past c q (x ∷ xs) h k =
    closed_past c (quoting_after c q x) xs (All-tail (λ x. is_quote x ≡ false) x xs h) (stays_closed c x q (All-head (λ x. is_quote x ≡ false) x xs h) k)

stays_on : (c x : ℕ) (q : Quoting) → is_off q ≡ false → is_off (quoting_after c q x) ≡ false
stays_on c x Off h = h
stays_on c x Ready h = elim (is_quote x) as (λ b. is_off (cond b Open (cond (eqb x c) Ready Bare)) ≡ false) [ true ↦ refl | false ↦ elim (eqb x c) as (λ b. is_off (cond b Ready Bare) ≡ false) [ true ↦ refl | false ↦ refl ] ]
stays_on c x Open h = elim (is_quote x) as (λ b. is_off (cond b Ready Open) ≡ false) [ true ↦ refl | false ↦ refl ]
stays_on c x Bare h = elim (eqb x c) as (λ b. is_off (cond b Ready Bare) ≡ false) [ true ↦ refl | false ↦ refl ]

on_past : (c : ℕ) (q : Quoting) (xs : List ℕ) → is_off q ≡ false → is_off (quoting_past c q xs) ≡ false
on_past c q [] h = h
on_past c q (x ∷ xs) h = on_past c (quoting_after c q x) xs (stays_on c x q h)

-- a part without a quote
pub unquoted_passes : (e c : ℕ) (s q : Quoting) (xs : List ℕ) → is_open q ≡ false → All (λ x. eqb x e ≡ false) xs → All (λ x. is_quote x ≡ false) xs → Passes e c s q xs
unquoted_passes e c s q xs k h none = record { state = quoting_past c q xs; closed = closed_past c q xs none k; on = on_past c q xs; parts = λ more. passes_all e c s q xs more h }

-- a part of a line that isn't a record
off_past : (c : ℕ) (xs : List ℕ) → is_open (quoting_past c Off xs) ≡ false
off_past c [] = refl
off_past c (x ∷ xs) = off_past c xs

pub off_passes : (e c : ℕ) (s q : Quoting) (xs : List ℕ) → q ≡ Off → All (λ x. eqb x e ≡ false) xs → Passes e c s q xs
off_passes e c s q xs off h = record {
  state = quoting_past c q xs;
  closed = ap (λ q. is_open (quoting_past c q xs)) off ∙ off_past c xs;
  on = on_past c q xs;
  parts = λ more. passes_all e c s q xs more h;
}

pub no_end : (e c : ℕ) (s q : Quoting) (xs : List ℕ) → All (λ x. eqb x e ≡ false) xs → split_outside_quotes e c s q xs ≡ xs ∷ []
no_end e c s q xs h =
    ap (split_outside_quotes e c s q) (sym (append-nil xs)) ∙ passes_all e c s q xs [] h ∙ onto_one xs [] [] ∙ ap (λ l. l ∷ []) (append-nil xs)

-- the part that a search for its end finds
pub found_end : (e c : ℕ) (s q : Quoting) (xs : List ℕ) (k : ℕ) → (k < length xs) × (xs ≡ take k xs ++ e ∷ drop (k + 1) xs) → Passes e c s q (take k xs)
    → (k < length xs) × ((more : List ℕ) → split_outside_quotes e c s q (xs ++ more) ≡ take k xs ∷ split_outside_quotes e c s s (drop (k + 1) xs ++ more))
    × (xs ≡ take k xs ++ e ∷ drop (k + 1) xs)
found_end e c s q xs k (within, whole) passes = (
  within,
  λ more. ap (λ t. split_outside_quotes e c s q (t ++ more)) whole ∙ ap (split_outside_quotes e c s q) (append_assoc (take k xs) (e ∷ drop (k + 1) xs) more)
      ∙ ends_after e c s q (take k xs) (drop (k + 1) xs ++ more) passes,
  whole,
)

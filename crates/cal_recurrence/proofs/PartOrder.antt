-- What the parts of a text say is a relation, and their order is free.
use Rattle.std.proofs.Common.{◌≡◌, ℕ, ◌+◌, ◌≤◌, ◌⊎◌, Bool, true, false, cond, List, [], ◌∷◌, ◌++◌, append-nil, append_assoc, length, Option, Some, None, Ok, Err, inl, inr, refl, sym, ap, subst, ◌∙◌, arith}
use Rattle.std.specs.Prelude.{◌||◌, codes, count_by, is_some, option_map, IsPermutation}
use Rattle.std.specs.List.{All, list_any}
use Rattle.std.specs.Option.{option_map_or, option_or}
use Rattle.std.proofs.lemmas.Bool.{cases_Bool, false≢true, or_left, or_parts, or_right, true≢false}
use Rattle.std.proofs.lemmas.List.Elements.{All-cons, All-head, All-nil, All-tail, All-weaker}
use Rattle.std.proofs.lemmas.List.Sorted.{All-permutation, IsPermutation-sym, sum_by-IsPermutation}
use Rattle.std.proofs.lemmas.List.Sums.{sum_by-append, sum_by-cons}
use Rattle.cal_recurrence.specs.Days.{excluded, ranks_alone}
use Rattle.cal_recurrence.specs.Text.{checked, fault, first_error, is_part, later_of, part_error, parts_in, parts_say, place_of, recurrence_of, recurrence_said, repeats, value_error, value_in, IsValidPart, SaysRule}
use Rattle.cal_recurrence.specs.Words.{bytes_after, front_at, has_name, part_of, parts_at, rest_at}
use Rattle.cal_recurrence.specs.declared.fault.ParseRuleError.{ParseRuleError}
use Rattle.cal_recurrence.specs.declared.fault.ParseRuleErrorKind.TheVariants.{Alone, Missing, Unknown}
use Rattle.cal_recurrence.specs.declared.fault.RulePart.{RulePart}
use Rattle.cal_recurrence.specs.declared.fault.RulePart.TheVariants as part
use Rattle.cal_recurrence.specs.declared.recurrence.Recurrence.{Recurrence}
use Rattle.cal_recurrence.proofs.SaidLines.{first-none, second-none}
use Rattle.cal_recurrence.proofs.SaidParts.{name-of, new-part, of-name, same-draft}

-- ---- counts
abbrev one-if : Bool → ℕ
one-if b = cond b 1 0

count-none : {X : Type 0} (f : X → Bool) (xs : List X) → list_any f xs ≡ false → count_by f xs ≡ 0
count-none f [] h = refl
count-none f (x ∷ xs) h =
    let both = or_parts (f x) (list_any f xs) h in
    let first : one-if (f x) ≡ 0 = ap one-if both.0 in
    omega (arith, sum_by-cons (λ x. cond (f x) 1 0) x xs, first, count-none f xs both.1)

count-some : {X : Type 0} (f : X → Bool) (xs : List X) → list_any f xs ≡ true → 1 ≤ count_by f xs
count-some f [] h = absurd (false≢true h)
count-some f (x ∷ xs) h = by (f x) h (count-some f xs) (sum_by-cons (λ x. cond (f x) 1 0) x xs)
  where
    by : (b : Bool) → b || list_any f xs ≡ true → (list_any f xs ≡ true → 1 ≤ count_by f xs) → count_by f (x ∷ xs) ≡ cond b 1 0 + count_by f xs → 1 ≤ count_by f (x ∷ xs)
    by true e k sum = omega (arith, sum)
    by false e k sum = omega (arith, sum, k e)

count-zero : {X : Type 0} (f : X → Bool) (xs : List X) → count_by f xs ≡ 0 → list_any f xs ≡ false
count-zero f xs h = elim (cases_Bool (list_any f xs)) as (λ _. list_any f xs ≡ false) [
  | inl some ↦ absurd (omega (arith, h, count-some f xs some))
  | inr none ↦ none
]

-- ---- repeated parts
repeats-itself : (at : RulePart) (text : List ℕ) → is_part at text ≡ true → repeats at text ≡ true
repeats-itself part.Frequency text h = h
repeats-itself part.Interval text h = h
repeats-itself part.WeekStart text h = h
repeats-itself part.Months text h = h
repeats-itself part.Weeks text h = h
repeats-itself part.YearDays text h = h
repeats-itself part.MonthDays text h = h
repeats-itself part.Weekdays text h = h
repeats-itself part.Hours text h = h
repeats-itself part.Minutes text h = h
repeats-itself part.Seconds text h = h
repeats-itself part.Positions text h = h
repeats-itself part.Until text h = or_left (is_part part.Until text) (is_part part.Count text) h
repeats-itself part.Count text h = or_right (is_part part.Until text) (is_part part.Count text) h

-- the text of a part repeats the parts that repeat the same texts
abbrev Alike : RulePart → RulePart → Type 0
Alike p at = (texts : List (List ℕ)) → list_any (repeats at) texts ≡ false → list_any (repeats p) texts ≡ false

alike-itself : (p at : RulePart) (text : List ℕ) → part_of (front_at 61 text) ≡ Some at → is_part p text ≡ true → Alike p at
alike-itself p at text named h =
    let both : Some p ≡ Some at = sym (of-name p (front_at 61 text) h) ∙ named in
    let is : p ≡ at = cc in
    subst (λ q. Alike q at) (sym is) (λ texts none. none)

alike-end : (at : RulePart) (text : List ℕ) → part_of (front_at 61 text) ≡ Some at → is_part part.Until text || is_part part.Count text ≡ true → Alike part.Until at
alike-end at text named h = elim (cases_Bool (is_part part.Until text)) as (λ _. Alike part.Until at) [
  | inl until ↦ alike-itself part.Until at text named until
  | inr other ↦
      let count : is_part part.Count text ≡ true = sym (ap (λ b. b || is_part part.Count text) other) ∙ h in
      alike-itself part.Count at text named count
]

alike : (p at : RulePart) (text : List ℕ) → part_of (front_at 61 text) ≡ Some at → repeats p text ≡ true → Alike p at
alike part.Frequency at text named h = alike-itself part.Frequency at text named h
alike part.Interval at text named h = alike-itself part.Interval at text named h
alike part.WeekStart at text named h = alike-itself part.WeekStart at text named h
alike part.Months at text named h = alike-itself part.Months at text named h
alike part.Weeks at text named h = alike-itself part.Weeks at text named h
alike part.YearDays at text named h = alike-itself part.YearDays at text named h
alike part.MonthDays at text named h = alike-itself part.MonthDays at text named h
alike part.Weekdays at text named h = alike-itself part.Weekdays at text named h
alike part.Hours at text named h = alike-itself part.Hours at text named h
alike part.Minutes at text named h = alike-itself part.Minutes at text named h
alike part.Seconds at text named h = alike-itself part.Seconds at text named h
alike part.Positions at text named h = alike-itself part.Positions at text named h
alike part.Until at text named h = alike-end at text named h
alike part.Count at text named h = alike-end at text named h

-- each part is given at most once
abbrev AreOnce : List (List ℕ) → Type 0
AreOnce texts = (at : RulePart) → count_by (repeats at) texts ≤ 1

once-more : (before : List (List ℕ)) (text : List ℕ) (at : RulePart) → part_of (front_at 61 text) ≡ Some at → list_any (repeats at) before ≡ false
    → AreOnce before → AreOnce (before ++ text ∷ [])
once-more before text at named new once p =
    let total = sum_by-append (λ text. cond (repeats p text) 1 0) before (text ∷ []) in
    let last = sum_by-cons (λ text. cond (repeats p text) 1 0) text [] in
    elim (cases_Bool (repeats p text)) as (λ _. count_by (repeats p) (before ++ text ∷ []) ≤ 1) [
      | inl given ↦
          let one : one-if (repeats p text) ≡ 1 = ap one-if given in
          omega (arith, total, last, one, count-none (repeats p) before (alike p at text named given before new))
      | inr other ↦
          let none : one-if (repeats p text) ≡ 0 = ap one-if other in
          omega (arith, total, last, none, once p)
    ]

-- ---- the first error
map-none : {X Y : Type 0} (f : X → Y) (o : Option X) → option_map f o ≡ None → o ≡ None
map-none f None e = refl
map-none f (Some x) e = absurd (cc)

valid-parts : (at : ℕ) (before texts : List (List ℕ)) → AreOnce before → first_error at before texts ≡ None → All IsValidPart texts × AreOnce (before ++ texts)
valid-parts at before [] once e = (All-nil IsValidPart, subst AreOnce (sym (append-nil before)) once)
valid-parts at before (text ∷ texts) once e =
    let is = new-part before text (map-none (fault at) (part_error before text) (first-none _ _ e)) in
    let others = valid-parts (at + length text + 1) (before ++ text ∷ []) texts (once-more before text is.part is.named is.new once) (second-none _ _ e) in
    let valid : IsValidPart text = record { part = is.part; named = name-of is.part (front_at 61 text) is.named; few = is.few; valid = is.value } in
    (All-cons IsValidPart text texts valid others.0, subst AreOnce (append_assoc before (text ∷ []) texts) others.1)

no-error : (at : ℕ) (before texts : List (List ℕ)) → All IsValidPart texts → AreOnce (before ++ texts) → first_error at before texts ≡ None
no-error at before [] parts once = refl
no-error at before (text ∷ texts) parts once =
    let is = All-head IsValidPart text texts parts in
    let others = no-error (at + length text + 1) (before ++ text ∷ []) texts (All-tail IsValidPart text texts parts) (subst AreOnce (sym (append_assoc before (text ∷ []) texts)) once) in
    let total = sum_by-append (λ text. cond (repeats is.part text) 1 0) before (text ∷ texts) in
    let more = sum_by-cons (λ text. cond (repeats is.part text) 1 0) text texts in
    let one : one-if (repeats is.part text) ≡ 1 = ap one-if (repeats-itself is.part text is.named) in
    let none : count_by (repeats is.part) before ≡ 0 = omega (arith, total, more, one, once is.part) in
    let new = count-zero (repeats is.part) before none in
    let value : value_error before (rest_at 61 text) is.part ≡ None = rw (is.few, new, is.valid) refl in
    let free : part_error before text ≡ None =
    ap (λ o. option_map_or (value_error before (rest_at 61 text)) o (Some Unknown)) (of-name is.part (front_at 61 text) is.named) ∙ value in
    ap (λ o. option_or (option_map (fault at) o) (first_error (at + length text + 1) (before ++ text ∷ []) texts)) free ∙ others

-- ---- the relation
says-rule : (at : ℕ) (texts : List (List ℕ)) (r : Recurrence) → parts_say at texts ≡ Ok r → SaysRule texts r
says-rule at texts r e =
    by-error (first_error at [] texts) (is_some (value_in texts part.Frequency)) refl refl e
  where
    its : Recurrence
    its = recurrence_said (value_in texts)

    missing : ParseRuleError
    missing = fault (place_of (codes "FREQ") at texts) Missing

    alone : ParseRuleError
    alone = fault (place_of (codes "BYSETPOS") at texts) (Alone part.Positions)

    by-rank : (b : Bool) → first_error at [] texts ≡ None → is_some (value_in texts part.Frequency) ≡ true → excluded its ≡ None → ranks_alone its ≡ b
        → cond b (Err alone) (Ok its) ≡ Ok r → SaysRule texts r
    by-rank true none frequency free rank e = absurd (cc)
    by-rank false none frequency free rank e =
        let is : its ≡ r = cc in
        let valid = valid-parts at [] texts (λ p. omega arith) none in
        record {
          parts = valid.0;
          once = valid.1;
          frequency = frequency;
          is = sym is;
          allowed = subst (λ x. excluded x ≡ None) is free;
          ranked = subst (λ x. ranks_alone x ≡ false) is rank;
        }

    by-pair : (o : Option (RulePart × RulePart)) → first_error at [] texts ≡ None → is_some (value_in texts part.Frequency) ≡ true → excluded its ≡ o
        → option_map_or (λ both. Err (later_of at texts both)) o (cond (ranks_alone its) (Err alone) (Ok its)) ≡ Ok r → SaysRule texts r
    by-pair (Some both) none frequency pair e = absurd (cc)
    by-pair None none frequency pair e = by-rank (ranks_alone its) none frequency pair refl e

    by-error : (o : Option ParseRuleError) (b : Bool) → first_error at [] texts ≡ o → is_some (value_in texts part.Frequency) ≡ b
        → checked at texts (option_map_or Err o (cond b (Ok its) (Err missing))) ≡ Ok r → SaysRule texts r
    by-error (Some why) b error frequency e = absurd (cc)
    by-error None false error frequency e = absurd (cc)
    by-error None true error frequency e = by-pair (excluded its) error frequency refl e

said-rule : (at : ℕ) (texts : List (List ℕ)) (r : Recurrence) → SaysRule texts r → parts_say at texts ≡ Ok r
said-rule at texts r h =
    let none = no-error at [] texts h.parts h.once in
    let missing = fault (place_of (codes "FREQ") at texts) Missing in
    let free : excluded (recurrence_said (value_in texts)) ≡ None = subst (λ x. excluded x ≡ None) h.is h.allowed in
    let ranked : ranks_alone (recurrence_said (value_in texts)) ≡ false = subst (λ x. ranks_alone x ≡ false) h.is h.ranked in
    let checks : checked at texts (Ok (recurrence_said (value_in texts))) ≡ Ok (recurrence_said (value_in texts)) = rw (free, ranked) refl in
    ap (λ o. checked at texts (option_map_or Err o (cond (is_some (value_in texts part.Frequency)) (Ok (recurrence_said (value_in texts))) (Err missing)))) none
    ∙ ap (λ b. checked at texts (cond b (Ok (recurrence_said (value_in texts))) (Err missing))) h.frequency ∙ checks ∙ ap Ok (sym h.is)

pub rule_text : (text : List ℕ) (r : Recurrence) → (recurrence_of text ≡ Ok r → SaysRule (parts_in text) r) × (SaysRule (parts_in text) r → recurrence_of text ≡ Ok r)
rule_text text r = by (has_name text)
  where
    by : (b : Bool) → (cond b (parts_say 6 (parts_at 59 (bytes_after 6 text))) (parts_say 0 (parts_at 59 text)) ≡ Ok r → SaysRule (parts_at 59 (cond b (bytes_after 6 text) text)) r)
        × (SaysRule (parts_at 59 (cond b (bytes_after 6 text) text)) r → cond b (parts_say 6 (parts_at 59 (bytes_after 6 text))) (parts_say 0 (parts_at 59 text)) ≡ Ok r)
    by true = (says-rule 6 (parts_at 59 (bytes_after 6 text)) r, said-rule 6 (parts_at 59 (bytes_after 6 text)) r)
    by false = (says-rule 0 (parts_at 59 text) r, said-rule 0 (parts_at 59 text) r)

-- ---- another order
-- a text that is the part has this value
abbrev HasValue : RulePart → Option (List ℕ) → List ℕ → Type 0
HasValue p value text = is_part p text ≡ true → value ≡ Some (rest_at 61 text)

no-part : (p : RulePart) (texts : List (List ℕ)) → list_any (repeats p) texts ≡ false → All (λ text. is_part p text ≡ false) texts
no-part p [] h = All-nil (λ text. is_part p text ≡ false)
no-part p (text ∷ texts) h =
    let both = or_parts (repeats p text) (list_any (repeats p) texts) h in
    let other : is_part p text ≡ false = elim (cases_Bool (is_part p text)) as (λ _. is_part p text ≡ false) [
      | inl given ↦ absurd (false≢true (sym both.0 ∙ repeats-itself p text given))
      | inr other ↦ other
    ] in
    All-cons (λ text. is_part p text ≡ false) text texts other (no-part p texts both.1)

one-value : (p : RulePart) (texts : List (List ℕ)) → count_by (repeats p) texts ≤ 1 → All (HasValue p (value_in texts p)) texts
one-value p [] once = All-nil (HasValue p None)
one-value p (text ∷ texts) once =
    let sum = sum_by-cons (λ text. cond (repeats p text) 1 0) text texts in
    elim (cases_Bool (is_part p text)) as (λ _. All (HasValue p (value_in (text ∷ texts) p)) (text ∷ texts)) [
      | inl given ↦
          let one : one-if (repeats p text) ≡ 1 = ap one-if (repeats-itself p text given) in
          let none = no-part p texts (count-zero (repeats p) texts (omega (arith, sum, one, once))) in
          subst (λ b. All (HasValue p (cond b (Some (rest_at 61 text)) (value_in texts p))) (text ∷ texts)) (sym given)
          (All-cons (HasValue p (Some (rest_at 61 text))) text texts (λ e. refl)
          (All-weaker (λ text. is_part p text ≡ false) (HasValue p (Some (rest_at 61 text))) (λ text other e. absurd (true≢false (sym e ∙ other))) texts none))
      | inr other ↦
          subst (λ b. All (HasValue p (cond b (Some (rest_at 61 text)) (value_in texts p))) (text ∷ texts)) (sym other)
          (All-cons (HasValue p (value_in texts p)) text texts (λ e. absurd (true≢false (sym e ∙ other))) (one-value p texts (omega (arith, sum, once))))
    ]

found : (p : RulePart) (value : Option (List ℕ)) (texts : List (List ℕ)) → All (HasValue p value) texts
    → (value_in texts p ≡ value) ⊎ All (λ text. is_part p text ≡ false) texts
found p value [] h = inr (All-nil (λ text. is_part p text ≡ false))
found p value (text ∷ texts) h =
    elim (cases_Bool (is_part p text)) as (λ _. (value_in (text ∷ texts) p ≡ value) ⊎ All (λ text. is_part p text ≡ false) (text ∷ texts)) [
      | inl given ↦
          inl (ap (λ b. cond b (Some (rest_at 61 text)) (value_in texts p)) given ∙ sym (All-head (HasValue p value) text texts h given))
      | inr other ↦ later other (found p value texts (All-tail (HasValue p value) text texts h))
    ]
  where
    later : is_part p text ≡ false → (value_in texts p ≡ value) ⊎ All (λ text. is_part p text ≡ false) texts
        → (value_in (text ∷ texts) p ≡ value) ⊎ All (λ text. is_part p text ≡ false) (text ∷ texts)
    later other (inl e) = inl (ap (λ b. cond b (Some (rest_at 61 text)) (value_in texts p)) other ∙ e)
    later other (inr none) = inr (All-cons (λ text. is_part p text ≡ false) text texts other none)

without-part : (p : RulePart) (texts : List (List ℕ)) → All (λ text. is_part p text ≡ false) texts → value_in texts p ≡ None
without-part p [] h = refl
without-part p (text ∷ texts) h =
    ap (λ b. cond b (Some (rest_at 61 text)) (value_in texts p)) (All-head (λ text. is_part p text ≡ false) text texts h)
    ∙ without-part p texts (All-tail (λ text. is_part p text ≡ false) text texts h)

same-value : (p : RulePart) (texts others : List (List ℕ)) → IsPermutation texts others → count_by (repeats p) texts ≤ 1 → value_in others p ≡ value_in texts p
same-value p texts others same once =
    by (found p (value_in texts p) others (All-permutation (HasValue p (value_in texts p)) texts others same (one-value p texts once)))
  where
    by : (value_in others p ≡ value_in texts p) ⊎ All (λ text. is_part p text ≡ false) others → value_in others p ≡ value_in texts p
    by (inl e) = e
    by (inr none) =
        without-part p others none
        ∙ sym (without-part p texts (All-permutation (λ text. is_part p text ≡ false) others texts (IsPermutation-sym texts others same) none))

pub said_in_order : (texts others : List (List ℕ)) (r : Recurrence) → IsPermutation texts others → SaysRule texts r → SaysRule others r
said_in_order texts others r same h =
    let values : (p : RulePart) → value_in others p ≡ value_in texts p = λ p. same-value p texts others same (h.once p) in
    record {
      parts = All-permutation IsValidPart texts others same h.parts;
      once = λ at. omega (arith, sum_by-IsPermutation (λ text. cond (repeats at text) 1 0) texts others same, h.once at);
      frequency = ap is_some (values part.Frequency) ∙ h.frequency;
      is = h.is ∙ sym (ap (λ d. d.recurrence) (same-draft (value_in others) (value_in texts) values));
      allowed = h.allowed;
      ranked = h.ranked;
    }

-- The reply to a line, from what goes out for its text.
use Rattle.std.proofs.Common.{◌≡◌, ◌⊎◌, inl, inr, ℕ, ◌+◌, ◌-◌, ◌<◌, ◌≤◌, Bool, true, false, cond, eqb, List, [], ◌∷◌, ◌++◌, length, take, get_or, Option, Some, None, Ok, Err, refl, sym, ap, ◌∙◌, subst, arith, length-append, append_assoc}
use Rattle.std.specs.Prelude.{IsSomeAnd, MatchBool, MatchOption, is_some, nat_lt, unwrap_or, ◌&&◌}
use Rattle.std.proofs.Math.Seq.{take-append-add}
use Rattle.std.proofs.lemmas.Bool.{false≢true, le-ltb, lt-ltb}
use Rattle.std.proofs.lemmas.List.{append-nil, get_or-append-add}
use Rattle.caldate_lines.specs.Fields.{text_without}
use Rattle.caldate_lines.specs.Lines.{has_return, text_of}
use Rattle.caldate_lines.specs.Reasons.{reason}
use Rattle.caldate_lines.specs.RunStates.{more, IsDroppedFront, passed}
use Rattle.caldate_lines.specs.declared.no_answer.NoAnswer.{NoAnswer}
use Rattle.caldate_lines.specs.declared.no_answer.NoAnswer.TheVariants as why
use Rattle.caldate_lines.specs.declared.on_invalid.OnInvalid.{OnInvalid}
use Rattle.caldate_lines.specs.declared.on_invalid.OnInvalid.TheVariants as invalid
use Rattle.caldate_lines.specs.declared.field.Field.{Field}
use Rattle.caldate_lines.specs.declared.tally.Tally.{Tally}
use Rattle.caldate_lines.specs.declared.unanswered.UnansweredLine.{UnansweredLine}
use Rattle.caldate_answers.specs.Answers.{Answer}
use Rattle.caldate_answers.specs.Appends.{AppendsAnswer, AppendsSome}
use Rattle.caldate_answers.specs.Scans.{IsScanned}
use Rattle.caldate_answers.specs.declared.request.Filter.{Filter}
use Rattle.caldate_run.proofs.Steps.{passed_none}
use Rattle.caldate_run.specs.Pieces.{IsAnswered, instead, pieces_of}
use Rattle.caldate_run.specs.Replies.{Describes, IsCounted, IsLine, IsOutcome, IsOutcomeOfText, IsReplyTo, own_field, skipped, stops, with_end}
use Rattle.caldate_run.specs.Runs.{AppendsOut}

-- ---- a line of which a front was let go
pub same_return : (kept line : List ℕ) → 0 < length line → has_return (kept ++ line) ≡ has_return line
same_return kept line some =
    let at : length (kept ++ line) - 1 ≡ length kept + (length line - 1) = omega (arith, length-append kept line) in
    ap (λ byte. tests byte) (ap (λ k. get_or (kept ++ line) k 0) at ∙ get_or-append-add kept line (length line - 1) 0)
  where
    tests : ℕ → Bool
    tests byte = eqb byte 13

same_cut : (b : Bool) (kept line : List ℕ) → IsDroppedFront b kept line → has_return (kept ++ line) ≡ has_return line
same_cut false kept line h = ap (λ k. has_return (k ++ line)) h
same_cut true kept line h = same_return kept line (omega (arith, h.1))

-- the text of a line, after a front that was dropped
text_at : (cut : Bool) (kept line : List ℕ) → 0 < length line
    → cond cut (take (length (kept ++ line) - 1) (kept ++ line)) (kept ++ line) ≡ kept ++ cond cut (take (length line - 1) line) line
text_at true kept line some =
    let at : length (kept ++ line) - 1 ≡ length kept + (length line - 1) = omega (arith, some, length-append kept line) in
    ap (λ k. take k (kept ++ line)) at ∙ take-append-add kept line (length line - 1)
text_at false kept line some = refl

text_after : (kept line : List ℕ) → IsDroppedFront true kept line → text_of (kept ++ line) ≡ kept ++ text_of line
text_after kept line h =
    ap (λ c. cond c (take (length (kept ++ line) - 1) (kept ++ line)) (kept ++ line)) (same_cut true kept line h)
    ∙ text_at (has_return line) kept line (omega (arith, h.1))

too_long : (kept line : List ℕ) → IsDroppedFront true kept line → nat_lt 4096 (length (text_of (kept ++ line))) ≡ true
too_long kept line h = lt-ltb 4096 (length (text_of (kept ++ line))) (omega (arith, h.0, ap length (text_after kept line h), length-append kept (text_of line)))

-- ---- the outcome of a line
either_true : (b : Bool) (P Q : Type 0) → b ≡ true → P → MatchBool b P Q
either_true b P Q e p = subst (λ c. MatchBool c P Q) (sym e) p

either_false : (b : Bool) (P Q : Type 0) → b ≡ false → Q → MatchBool b P Q
either_false b P Q e q = subst (λ c. MatchBool c P Q) (sym e) q

of_long : (filter : Filter) (before : ℕ) (text : List ℕ) (any : Option NoAnswer) (out : Option (List ℕ)) → nat_lt 4096 (length text) ≡ true
    → IsLine filter.on_invalid (text_without (own_field filter before) text) (Err why.TooLong) any out → IsOutcome filter before text any out
of_long filter before text any out long h = either_true (nat_lt 4096 (length text)) _ _ long h

pub of_skipped : (filter : Filter) (before : ℕ) (text : List ℕ) (any : Option NoAnswer) (out : Option (List ℕ)) → length text ≤ 4096 → before < filter.skip
    → IsLine filter.on_invalid (text_without (own_field filter before) text) (skipped filter before text) any out → IsOutcome filter before text any out
of_skipped filter before text any out fits skip h =
    either_false (nat_lt 4096 (length text)) _ _ (le-ltb 4096 (length text) fits) (either_true (nat_lt before filter.skip) _ _ (lt-ltb before filter.skip skip) h)

of_text : (filter : Filter) (before : ℕ) (text : List ℕ) (any : Option NoAnswer) (out : Option (List ℕ)) → length text ≤ 4096 → filter.skip ≤ before
    → IsOutcomeOfText filter text any out → IsOutcome filter before text any out
of_text filter before text any out fits skip h =
    either_false (nat_lt 4096 (length text)) _ _ (le-ltb 4096 (length text) fits) (either_false (nat_lt before filter.skip) _ _ (le-ltb before filter.skip skip) h)

pub of_pieces : (filter : Filter) (before : ℕ) (text : List ℕ) (any : Option NoAnswer) (out : Option (List ℕ)) → length text ≤ 4096 → filter.skip ≤ before → filter.scans ≡ false
    → IsAnswered filter text (pieces_of filter text) any out → IsOutcome filter before text any out
of_pieces filter before text any out fits skip scans h = of_text filter before text any out fits skip (either_false filter.scans _ _ scans h)

pub of_scan : (filter : Filter) (before : ℕ) (text : List ℕ) (any : Option NoAnswer) (out : Option (List ℕ)) → length text ≤ 4096 → filter.skip ≤ before → filter.scans ≡ true
    → ((answer : Answer) × IsScanned filter text answer × IsLine filter.on_invalid text answer any out) → IsOutcome filter before text any out
of_scan filter before text any out fits skip scans h = of_text filter before text any out fits skip (either_true filter.scans _ _ scans h)

-- ---- the bytes that are appended
pub weaker : (P Q : Option (List ℕ) → Type 0) (goes : Bool) (old new : List ℕ) → ((out : Option (List ℕ)) → P out → Q out) → AppendsOut P goes old new → AppendsOut Q goes old new
weaker P Q goes old new f h = (h.0, h.1, h.2, f h.0 h.3)

pub line_answered : (Is : Answer → Type 0) (mode : OnInvalid) (text : List ℕ) (goes : Bool) (old new : List ℕ) → AppendsAnswer Is (Ok goes) old new
    → AppendsOut (λ out. (answer : Answer) × Is answer × IsLine mode text answer None out) goes old new
line_answered Is mode text true old new (words, e, h) = (Some words, e, refl, (Ok (Some words), h, (refl, refl)))
line_answered Is mode text false old new (e, h) = (None, e ∙ sym (append-nil old), refl, (Ok None, h, (refl, refl)))

-- ---- a line, after a front that was passed on
-- what goes out for it
abbrev pub Left : Filter → ℕ → List ℕ → List ℕ → Option NoAnswer → Bool → List ℕ → List ℕ → Type 0
Left filter before kept line any goes old new =
    (out : Option (List ℕ)) × (words : List ℕ) × (new ≡ old ++ words) × (passed filter.on_invalid kept ++ words ≡ unwrap_or out [])
    × (goes ≡ is_some out) × IsOutcome filter before (text_of (kept ++ line)) any out

front_none : (mode : OnInvalid) (kept : List ℕ) → kept ≡ [] → passed mode kept ≡ []
front_none mode kept e = ap (passed mode) e ∙ passed_none mode

held_none : (b : Bool) (kept line : List ℕ) → b ≡ false → IsDroppedFront b kept line → kept ≡ []
held_none b kept line e h = subst (λ b. IsDroppedFront b kept line) e h

-- a line without such a front
pub short_left : (filter : Filter) (before : ℕ) (b : Bool) (kept line text old new : List ℕ) (any : Option NoAnswer) (goes : Bool) → b ≡ false → IsDroppedFront b kept line
    → text ≡ text_of line → AppendsOut (IsOutcome filter before text any) goes old new → Left filter before kept line any goes old new
short_left filter before b kept line text old new any goes short h e put =
    let none = held_none b kept line short h in (
      put.0,
      unwrap_or put.0 [],
      put.1,
      ap (λ p. p ++ unwrap_or put.0 []) (front_none filter.on_invalid kept none),
      put.2,
      subst (λ t. IsOutcome filter before t any put.0) (e ∙ ap (λ k. text_of (k ++ line)) (sym none)) put.3,
    )

without_after : (field : Option Field) (kept text : List ℕ) → text_without field (kept ++ text) ≡ kept ++ text_without field text
without_after None kept text = refl
without_after (Some field) kept text = without_end field.appends kept text (field.separator ∷ [])
  where
    without_end : (b : Bool) (kept text more : List ℕ) → cond b ((kept ++ text) ++ more) (kept ++ text) ≡ kept ++ cond b (text ++ more) text
    without_end true kept text more = append_assoc kept text more
    without_end false kept text more = refl

same_place : (mode : OnInvalid) (field : Option Field) (kept line text words : List ℕ) → IsDroppedFront true kept line → text ≡ text_of line
    → passed mode kept ++ unwrap_or (instead mode (text_without field text) words) [] ≡ unwrap_or (instead mode (text_without field (text_of (kept ++ line))) words) []
same_place invalid.Keep field kept line text words h e =
    sym (without_after field kept text) ∙ ap (text_without field) (ap (λ t. kept ++ t) e ∙ sym (text_after kept line h))
same_place invalid.Answer field kept line text words h e = refl
same_place invalid.Drop field kept line text words h e = refl
same_place invalid.Stop field kept line text words h e = refl

same_goes : (mode : OnInvalid) (x y words : List ℕ) → is_some (instead mode x words) ≡ is_some (instead mode y words)
same_goes invalid.Keep x y words = refl
same_goes invalid.Answer x y words = refl
same_goes invalid.Drop x y words = refl
same_goes invalid.Stop x y words = refl

-- a line that is too long
pub long_left : (filter : Filter) (before : ℕ) (b : Bool) (kept line text old new : List ℕ) (field : Option Field) (goes : Bool) → IsDroppedFront b kept line → text ≡ text_of line
    → (b ≡ true) ⊎ (4096 < length text) → field ≡ own_field filter before
    → new ≡ old ++ unwrap_or (instead filter.on_invalid (text_without field text) (reason why.TooLong)) []
    → goes ≡ is_some (instead filter.on_invalid (text_without field text) (reason why.TooLong)) → Left filter before kept line (Some why.TooLong) goes old new
long_left filter before true kept line text old new field goes h e long is put some =
    let mode = filter.on_invalid in
    let all = text_of (kept ++ line) in
    let words = reason why.TooLong in (
      instead mode (text_without field all) words,
      unwrap_or (instead mode (text_without field text) words) [],
      put,
      same_place mode field kept line text words h e,
      some ∙ same_goes mode (text_without field text) (text_without field all) words,
      of_long filter before all (Some why.TooLong) (instead mode (text_without field all) words) (too_long kept line h) (refl, ap (λ f. instead mode (text_without f all) words) is),
    )
long_left filter before false kept line text old new field goes h e (inl long) is put some = absurd (false≢true long)
long_left filter before false kept line text old new field goes h e (inr long) is put some =
    let out = instead filter.on_invalid (text_without field text) (reason why.TooLong) in
    short_left filter before false kept line text old new (Some why.TooLong) goes refl h e (
      out,
      put,
      some,
      of_long filter before text (Some why.TooLong) out (lt-ltb 4096 (length text) long)
          (refl, ap (λ f. instead filter.on_invalid (text_without f text) (reason why.TooLong)) is),
    )

-- what goes out after a front that was passed on, with the end of the line
pub ended : (b : Bool) (kept line front old mid new words : List ℕ) (out : Option (List ℕ)) (goes cut : Bool) → IsDroppedFront b kept line → mid ≡ old ++ words
    → front ++ words ≡ unwrap_or out [] → goes ≡ is_some out → cut ≡ has_return line → new ≡ mid ++ cond goes (cond cut (13 ∷ 10 ∷ []) (10 ∷ [])) []
    → (rest : List ℕ) × (new ≡ old ++ rest) × (front ++ rest ≡ with_end (kept ++ line) out)
ended b kept line front old mid new words out goes cut h put whole is e f = (
  words ++ cond goes (cond cut (13 ∷ 10 ∷ []) (10 ∷ [])) [],
  f ∙ ap (λ m. m ++ cond goes (cond cut (13 ∷ 10 ∷ []) (10 ∷ [])) []) put ∙ append_assoc old words (cond goes (cond cut (13 ∷ 10 ∷ []) (10 ∷ [])) []),
  sym (append_assoc front words (cond goes (cond cut (13 ∷ 10 ∷ []) (10 ∷ [])) [])) ∙ ap (λ w. w ++ cond goes (cond cut (13 ∷ 10 ∷ []) (10 ∷ [])) []) whole ∙ at out is,
)
  where
    at : (out : Option (List ℕ)) → goes ≡ is_some out → unwrap_or out [] ++ cond goes (cond cut (13 ∷ 10 ∷ []) (10 ∷ [])) [] ≡ with_end (kept ++ line) out
    at None is = ap (λ g. [] ++ cond g (cond cut (13 ∷ 10 ∷ []) (10 ∷ [])) []) is
    at (Some words) is =
        ap (λ g. words ++ cond g (cond cut (13 ∷ 10 ∷ []) (10 ∷ [])) []) is ∙ ap (λ c. words ++ cond c (13 ∷ 10 ∷ []) (10 ∷ [])) (e ∙ sym (same_cut b kept line h))

pub replied : (filter : Filter) (before : ℕ) (b : Bool) (kept line old mid new : List ℕ) (any : Option NoAnswer) (goes cut : Bool) (t u : Tally) → IsDroppedFront b kept line
    → Left filter before kept line any goes old mid → cut ≡ has_return line → new ≡ mid ++ cond goes (cond cut (13 ∷ 10 ∷ []) (10 ∷ [])) []
    → (is_some any && stops filter.on_invalid) ≡ false → IsCounted before any t u
    → AppendsSome (λ words. IsReplyTo filter before (kept ++ line) (passed filter.on_invalid kept ++ words) t u) old new
replied filter before b kept line old mid new any goes cut t u h put has f on counts =
    let end = ended b kept line (passed filter.on_invalid kept) old mid new put.1 put.0 goes cut h put.2 put.3 put.4 has f in
    (end.0, end.1, record { why = any; out = put.0; is = put.5; goes_on = on; reply_is = end.2; counts = counts })

-- ---- the count
pub first_counts : (before : ℕ) (any : NoAnswer) (first new : Option UnansweredLine) (reported : UnansweredLine) → Describes before any reported
    → MatchOption first (new ≡ Some reported) (λ f. new ≡ Some f) → MatchOption first (IsSomeAnd new (Describes before any)) (λ f. new ≡ Some f)
first_counts before any None new reported is h = subst (λ o. IsSomeAnd o (Describes before any)) (sym h) is
first_counts before any (Some f) new reported is h = h

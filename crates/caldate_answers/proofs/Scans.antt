-- The texts in a line: which is the first, and the answer to the line.
use Rattle.std.proofs.Common.{◌≡◌, inl, inr, ℕ, ◌+◌, ◌-◌, ◌<◌, ◌≤◌, Bool, true, false, List, ◌++◌, append_assoc, length, length-drop, length-take, take, drop, Option, Some, None, Result, Ok, Err, sym, ap, subst, ◌∙◌, arith}
use Rattle.std.specs.Prelude.{IfOk, IfErr, MatchOption, slice_index, if◌then◌else◌}
use Rattle.std.proofs.lemmas.Bool.{cases_lt, false≢true, le-ltb, lt-ltb}
use Rattle.std.proofs.lemmas.List.{take_rest}
use Rattle.cal_text.specs.declared.any.DateOrMoment.{DateOrMoment}
use Rattle.caldate_answers.specs.Answers.{IsNotRead, IsReadAs}
use Rattle.caldate_answers.specs.Readers.{has_form}
use Rattle.caldate_answers.specs.Scans.{IsFirstText, IsReadWith, IsText, IsTextAt, NoneFrom, fitted, is_likely, is_of_word, may_begin, part_at, with_words}
use Rattle.caldate_answers.specs.declared.request.Filter.{Filter}
use Rattle.caldate_lines.specs.declared.no_answer.NoAnswer.{NoAnswer}
use Rattle.caldate_lines.specs.declared.no_answer.NoAnswer.TheVariants as why
use Rattle.caldate_answers.proofs.Appends.{taken_back}

-- ---- whether bytes are a text
abbrev result : NoAnswer → Result DateOrMoment NoAnswer
result any = Err any

not_ok : (any : NoAnswer) (found : DateOrMoment) → result any ≡ Ok found → ⊥
not_ok any found e = cc

same_error : (a b : NoAnswer) → result a ≡ Err b → a ≡ b
same_error a b e = cc

pub no_text : (filter : Filter) (bytes : List ℕ) (any : NoAnswer) → ((found : DateOrMoment) → IsReadAs filter bytes found → result any ≡ Ok found)
    → ((other : NoAnswer) → IsNotRead filter bytes other → result any ≡ Err other) → has_form any ≡ false → IsText filter bytes → ⊥
no_text filter bytes any every unread e (some, inl h) = not_ok any h.0 (every h.0 h.1)
no_text filter bytes any every unread e (some, inr (other, h, has)) = false≢true (sym e ∙ ap has_form (same_error any other (unread other h)) ∙ has)

pub read_so : (filter : Filter) (bytes : List ℕ) (r : Result DateOrMoment NoAnswer) → IfOk r (IsReadAs filter bytes) → IfErr r (IsNotRead filter bytes) → IsReadWith filter bytes r
read_so filter bytes (Ok found) is not = is
read_so filter bytes (Err any) is not = not

-- whether bytes of the line are a text, by what their reading gives
pub read_there : (filter : Filter) (line : List ℕ) (k n : ℕ) (bytes : List ℕ) (r : Option (Result DateOrMoment NoAnswer)) → k + n ≤ length line
    → may_begin line k ≡ true → is_of_word (slice_index line (k + n)) ≡ false → bytes ≡ part_at line k n → is_likely filter bytes ≡ true
    → MatchOption r (¬ IsText filter bytes) (λ read. IsText filter bytes × IsReadWith filter bytes read)
    → MatchOption r (¬ IsTextAt filter line k n) (λ read. IsTextAt filter line k n × IsReadWith filter (part_at line k n) read)
read_there filter line k n bytes None within before after e likely none = λ h. none (subst (IsText filter) (sym e) h.is)
read_there filter line k n bytes (Some read) within before after e likely some = (
  record { within = within; is = subst (IsText filter) e some.0; before = before; after = after; likely = subst (λ b. is_likely filter b ≡ true) e likely },
  subst (λ b. IsReadWith filter b read) e some.1,
)

-- ---- the longest text at a place
pub some_bytes : (filter : Filter) (line : List ℕ) (k n : ℕ) → IsTextAt filter line k n → 0 < n
some_bytes filter line k n h = omega (arith, h.is.0, length-take n (drop k line))

pub none_past : (filter : Filter) (line : List ℕ) (k bound : ℕ) → ((n : ℕ) → bound < n → n ≤ length (drop k line) → IsText filter (part_at line k n) → ⊥)
    → (n : ℕ) → bound < n → IsTextAt filter line k n → ⊥
none_past filter line k bound none n past h = none n past (omega (arith, length-drop k line, h.within)) h.is

pub none_less : (filter : Filter) (line : List ℕ) (k bound : ℕ) → (IsTextAt filter line k bound → ⊥) → ((n : ℕ) → bound < n → IsTextAt filter line k n → ⊥)
    → (n : ℕ) → bound - 1 < n → IsTextAt filter line k n → ⊥
none_less filter line k bound none past n less h =
    elim (cases_lt bound n) as (λ _. ⊥) [
      | inl more ↦ past n more h
      | inr most ↦ none (subst (IsTextAt filter line k) (omega (arith, most, less, some_bytes filter line k n h)) h)
    ]

pub none_begins : (filter : Filter) (line : List ℕ) (k n : ℕ) → may_begin line k ≡ false → IsTextAt filter line k n → ⊥
none_begins filter line k n e h = false≢true (sym e ∙ h.before)

-- ---- the first text
pub none_more : (filter : Filter) (line : List ℕ) (i k : ℕ) → ((n : ℕ) → 0 < n → IsTextAt filter line k n → ⊥) → NoneFrom filter line i k → NoneFrom filter line i (k + 1)
none_more filter line i k none before = λ j n least most h. elim (cases_lt j k) as (λ _. ⊥) [
  | inl less ↦ before j n least less h
  | inr past ↦ (
      let at : IsTextAt filter line k n = subst (λ j. IsTextAt filter line j n) (omega (arith, past, most)) h in
      none n (some_bytes filter line k n at) at
      )
]

pub none_joined : (filter : Filter) (line : List ℕ) (i m k : ℕ) → NoneFrom filter line i m → NoneFrom filter line m k → NoneFrom filter line i k
none_joined filter line i m k before after = λ j n least most h. elim (cases_lt j m) as (λ _. ⊥) [
  | inl less ↦ before j n least less h
  | inr past ↦ after j n past most h
]

pub some_text : (filter : Filter) (line : List ℕ) (i k n : ℕ) → IsFirstText filter line i k n → NoneFrom filter line i (length line) → ⊥
some_text filter line i k n h none = none k n h.from (omega (arith, h.is.within, some_bytes filter line k n h.is)) h.is

-- ---- the answers so far
pub next_out : (old out line words buffer mid given : List ℕ) (i k : ℕ) → buffer ≡ old ++ out → mid ≡ buffer ++ part_at line i (k - i) → given ≡ mid ++ words
    → given ≡ old ++ with_words line i k out words
next_out old out line words buffer mid given i k e f g =
    let before = part_at line i (k - i) in
    g ∙ ap (λ l. l ++ words) (f ∙ ap (λ l. l ++ before) e ∙ append_assoc old out before) ∙ append_assoc old (out ++ before) words

pub last_out : (old out line buffer given : List ℕ) (i : ℕ) → buffer ≡ old ++ out → given ≡ buffer ++ take (length line - i) (drop i line) → given ≡ old ++ (out ++ drop i line)
last_out old out line buffer given i e f =
    f ∙ ap (λ l. buffer ++ l) (take_rest line i) ∙ ap (λ l. l ++ drop i line) e ∙ append_assoc old out (drop i line)

-- the bytes up to the text are taken back
pub back : (old out before buffer mid given new : List ℕ) (start : ℕ) → start ≡ length old → buffer ≡ old ++ out → mid ≡ buffer ++ before → given ≡ mid
    → new ≡ take start given → new ≡ old
back old out before buffer mid given new start at e f same cut =
    taken_back old given (out ++ before) new start at (same ∙ f ∙ ap (λ l. l ++ before) e ∙ append_assoc old out before) cut

pub fitted_long : (out : List ℕ) → 4096 < length out → Err why.TooLong ≡ fitted out
fitted_long out h = ap (λ (b : Bool). if b then Err why.TooLong else Ok (Some out)) (sym (lt-ltb 4096 (length out) h))

pub fitted_short : (out : List ℕ) → length out ≤ 4096 → Ok (Some out) ≡ fitted out
fitted_short out h = ap (λ (b : Bool). if b then Err why.TooLong else Ok (Some out)) (sym (le-ltb 4096 (length out) h))

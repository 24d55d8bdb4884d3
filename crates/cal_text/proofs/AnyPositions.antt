-- The position at which a text stops matching all forms.
use Rattle.std.proofs.Common.{◌≡◌, ◌≢◌, ◌⊎◌, ℕ, ◌+◌, ◌<◌, ◌≤◌, pos, max, List, [], ◌∷◌, ◌++◌, length, get_or, take, drop, sym, ap, subst, ◌∙◌, arith, inl, inr}
use Rattle.std.proofs.lemmas.Bool.{cases_lt}
use Rattle.std.proofs.lemmas.List.{append_assoc, get_or_append_left, length-take-le, take-append-drop, take-append-le, take_at}
use Rattle.cal_time.specs.DateText.{digits_at_least, date_digits}
use Rattle.cal_time.proofs.DistinctTexts.{year-plain}
use Rattle.cal_text.specs.AnyForm.{HasAnyForm}
use Rattle.cal_text.specs.DateForms.{HasForm}
use Rattle.cal_text.specs.JulianForm.{IsJulianForm}
use Rattle.cal_text.specs.Position.{Begins, IsPosition, HasSome, IsErrorAtStop}
use Rattle.cal_text.specs.Rfc3339Form.{IsSeparator, HasMomentForm, clock_digits}
use Rattle.cal_text.specs.UnixText.{HasUnixForm}
use Rattle.cal_text.specs.declared.error.ParseError.{ParseError}
use Rattle.cal_text.specs.declared.error.ParseError.TheVariants.{UnexpectedEnd}
use Rattle.cal_text.specs.declared.date_numbers.DateNumbers.TheVariants.{Calendar}
use Rattle.cal_text.specs.declared.rfc3339.numbers.Numbers.{Numbers}
use Rattle.cal_text.proofs.AnyForms.{of_four, julian-any, unix-any}
use Rattle.cal_text.proofs.Positions.{begins_less, carried}
use Rattle.cal_text.proofs.Shapes.{moment-shape, julian-first, unix-first, date_digits-long}

-- Each longer beginning of the text has the same byte at i.
at_same : (text more : List ℕ) (i q : ℕ) → i < q → q ≤ length text → get_or (take q text ++ more) i 0 ≡ get_or text i 0
at_same text more i q before within =
    let long : i < length (take q text) = omega (arith, length-take-le q text within) in
    get_or_append_left (take q text) more 0 i long ∙ sym (get_or_append_left (take q text) (drop q text) 0 i long) ∙ ap (λ all. get_or all i 0) (take-append-drop q text)

-- A position in one form is a position in all forms, if every beginning of some form there begins
-- this form.
widened : (IsText : List ℕ → Type 0) (text : List ℕ) (e : ParseError) → ((bytes : List ℕ) → IsText bytes → HasAnyForm bytes)
    → ((q : ℕ) → 0 < q → q ≤ length text → Begins HasAnyForm (take q text) → Begins IsText (take q text)) → IsErrorAtStop IsText text e → IsErrorAtStop HasAnyForm text e
widened IsText text e into back = carried IsText HasAnyForm text e (λ p h. record {
  within = h.within;
  begins = record { more = h.begins.more; text = into _ h.begins.text };
  no_further = λ more b. h.no_further more (back (p + 1) (omega arith) (omega (arith, more)) b);
})

pub julian : (text : List ℕ) (e : ParseError) → get_or text 0 0 ≡ 74 → IsErrorAtStop (HasSome IsJulianForm) text e → IsErrorAtStop HasAnyForm text e
julian text e first = widened (HasSome IsJulianForm) text e (λ bytes h. inr (inl h))
    (λ q some few b. record { more = b.more; text = julian-any (take q text ++ b.more) (at_same text b.more 0 q some few ∙ first) b.text })

pub unix : (text : List ℕ) (e : ParseError) → get_or text 0 0 ≡ 64 → IsErrorAtStop (HasSome HasUnixForm) text e → IsErrorAtStop HasAnyForm text e
unix text e first = widened (HasSome HasUnixForm) text e (λ bytes h. inr (inr (inr h)))
    (λ q some few b. record { more = b.more; text = unix-any (take q text ++ b.more) (at_same text b.more 0 q some few ∙ first) b.text })

-- ---- dates and moments
-- the date of a moment has the form of one
date-text : (y m d : ℕ) → y < 10000 → m < 100 → d < 100 → HasForm (date_digits y m d) (Calendar (pos y) m d)
date-text y m d year month day = record {
  form = (omega (arith, year), month, day);
  bytes_are = whole (digits_at_least 4 y) (digits_at_least 2 m) (digits_at_least 2 d)
      ∙ ap (λ ys. (ys ++ 45 ∷ []) ++ ((digits_at_least 2 m ++ 45 ∷ []) ++ digits_at_least 2 d)) (sym (year-plain y (omega (arith, year))));
}
  where
    whole : (ys ms ds : List ℕ) → ys ++ 45 ∷ [] ++ ms ++ 45 ∷ [] ++ ds ≡ (ys ++ 45 ∷ []) ++ ((ms ++ 45 ∷ []) ++ ds)
    whole ys ms ds = simp append_assoc

-- so what begins a moment with ten bytes or fewer begins a date
moment-begins : (bytes : List ℕ) (m : Numbers) (q : ℕ) → HasMomentForm bytes m → q ≤ 10 → Begins (HasSome HasForm) (take q bytes)
moment-begins bytes m q h few =
    let ds = date_digits m.year m.month m.day in
    let long = date_digits-long bytes m h in
    let front : take q bytes ≡ take q ds = ap (take q) h.bytes_are ∙ take-append-le q ds (h.separator ∷ (clock_digits m.hour m.minute m.second ++ (h.fraction ++ h.offset))) (omega (arith, long, few)) in
    let form = date-text m.year m.month m.day h.numbers.year h.numbers.month h.numbers.day in
    record { more = drop q ds; text = (Calendar (pos m.year) m.month m.day, subst (λ all. HasForm all (Calendar (pos m.year) m.month m.day)) (sym (ap (λ xs. xs ++ drop q ds) front ∙ take-append-drop q ds)) form) }

abbrev IsOther : List ℕ → Type 0
IsOther text = (get_or text 0 0 ≢ 74) × (get_or text 0 0 ≢ 64)

-- The beginning of any form begins a date or a moment.
abbrev BeginsEither : List ℕ → Type 0
BeginsEither bytes = Begins (HasSome HasForm) bytes ⊎ Begins (HasSome HasMomentForm) bytes

either : (text : List ℕ) (q : ℕ) → IsOther text → 0 < q → q ≤ length text → Begins HasAnyForm (take q text) → BeginsEither (take q text)
either text q other some few b =
    let at = at_same text b.more 0 q some few in
    of_four b.text (λ date. inl (record { more = b.more; text = date })) (λ julian. absurd (other.0 (sym at ∙ julian-first (take q text ++ b.more) julian.0 julian.1)))
    (λ moment. inr (record { more = b.more; text = moment })) (λ unix. absurd (other.1 (sym at ∙ unix-first (take q text ++ b.more) unix.0 unix.1)))

pub date : (text : List ℕ) (e : ParseError) → IsOther text → ¬ IsSeparator (get_or text 10 0) → IsErrorAtStop (HasSome HasForm) text e → IsErrorAtStop HasAnyForm text e
date text e other none = widened (HasSome HasForm) text e (λ bytes h. inl h) back
  where
    back : (q : ℕ) → 0 < q → q ≤ length text → Begins HasAnyForm (take q text) → Begins (HasSome HasForm) (take q text)
    back q some few b = elim (either text q other some few b) as (λ _. Begins (HasSome HasForm) (take q text)) [
      | inl here ↦ here
      | inr moment ↦ elim (cases_lt 10 q) as (λ _. Begins (HasSome HasForm) (take q text)) [
        | inl more ↦
            let is = (moment-shape (take q text ++ moment.more) moment.text.0 moment.text.1).separator in
            absurd (none (subst IsSeparator (at_same text moment.more 10 q more few) is))
        | inr less ↦
            let same : take q (take q text ++ moment.more) ≡ take q text = take_at (take q text) moment.more q (length-take-le q text few) in
            subst (Begins (HasSome HasForm)) same (moment-begins (take q text ++ moment.more) moment.text.0 q moment.text.1 (omega (arith, less)))
      ]
    ]

-- what ends too early for a moment ends too early
pub ended : (text : List ℕ) (n : ℕ) → IsErrorAtStop (HasSome HasMomentForm) text (UnexpectedEnd n) → IsErrorAtStop HasAnyForm text (UnexpectedEnd n)
ended text n h =
    let begins = h.0.begins in (
      record {
        within = h.0.within;
        begins = record { more = begins.more; text = inr (inr (inl begins.text)) };
        no_further = λ more b. omega (arith, h.1, more);
      },
      h.1,
    )

-- the further one of two positions
pub further : (text : List ℕ) (p q r : ℕ) → IsOther text → IsPosition (HasSome HasMomentForm) text p → IsPosition (HasSome HasForm) text q
    → r ≡ max p q → IsPosition HasAnyForm text r
further text p q r other moment date most = record {
  within = omega (arith, most, moment.within, date.within);
  begins = elim (cases_lt p q) as (λ _. Begins HasAnyForm (take r text)) [
    | inl less ↦ let same : r ≡ q = omega (arith, most, less) in rw same (record { more = date.begins.more; text = inl date.begins.text })
    | inr least ↦ let same : r ≡ p = omega (arith, most, least) in rw same (record { more = moment.begins.more; text = inr (inr (inl moment.begins.text)) })
  ];
  no_further = λ more begins. elim (either text (r + 1) other (omega arith) (omega (arith, more)) begins) [
    | inl here ↦ absurd (date.no_further (omega (arith, more, most)) (begins_less (HasSome HasForm) text (q + 1) (r + 1) (omega (arith, most)) here))
    | inr here ↦ absurd (moment.no_further (omega (arith, more, most)) (begins_less (HasSome HasMomentForm) text (p + 1) (r + 1) (omega (arith, most)) here))
  ];
}

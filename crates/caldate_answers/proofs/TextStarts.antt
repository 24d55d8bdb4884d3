-- The byte that starts a text.
use Rattle.std.proofs.Common.{◌≡◌, ◌⊎◌, inl, inr, ℕ, ◌+◌, ◌<◌, ◌≤◌, Bool, true, false, List, [], ◌∷◌, ◌++◌, length, length-append, length-take, take, drop, refl, sym, ap, subst, ◌∙◌, arith}
use Rattle.std.specs.Prelude.{◌&&◌, ◌||◌, ◌==◌, min, if◌then◌else◌, IsSomeAnd, slice_index}
use Rattle.std.proofs.lemmas.Bool.{and_parts, cases_lt, false≢true, or_cases}
use Rattle.std.proofs.Math.ListN.{get_or-eq_default}
use Rattle.std.proofs.lemmas.List.{get_or-take, get_or_append_left, length-take-le, take_all}
use Rattle.cal_text.specs.AnyForm.{HasAnyForm}
use Rattle.cal_text.specs.Shape.{Byte, Digits, Shape, YearAfterMinus, YearAfterPlus, after_year, date, julian_day, unix_time, unmatched_bytes}
use Rattle.cal_text.specs.declared.any.DateOrMoment.{DateOrMoment}
use Rattle.cal_text.proofs.FormShapes.{date_shape}
use Rattle.cal_text.proofs.MomentShapes.{moment_shapes}
use Rattle.cal_text.proofs.NumberShapes.{julian_shape}
use Rattle.cal_text.proofs.Stops.{IsIn}
use Rattle.cal_text.proofs.UnixShapes.{unix_shape}
use Rattle.caldate_answers.specs.Offsets.{is_digit}
use Rattle.caldate_answers.specs.Readers.{IsFoundBy, IsUnread, has_form}
use Rattle.caldate_answers.specs.Readings.{HasFormIn}
use Rattle.caldate_answers.specs.Scans.{Bounds, IsText, AreUsual, IsTextAt, IsUsual, StartWithDigits, StartsAsUsual, are_digits, is_digit_or_hyphen, is_usual_start, part_at, starts_with_digits}
use Rattle.caldate_answers.specs.Spellings.{full_by, is_sign}
use Rattle.caldate_answers.specs.declared.reading.Reading.{Reading}
use Rattle.caldate_answers.specs.declared.reading.Reading.TheVariants as reading
use Rattle.caldate_answers.specs.declared.reading.reader.Assumptions.{Assumptions}
use Rattle.caldate_answers.specs.declared.reading.reader.Reader.{Reader}
use Rattle.caldate_answers.specs.declared.reading.spelling.Spelling.{Spelling}
use Rattle.caldate_answers.specs.declared.reading.spelling.Spelling.TheVariants.{Iso}
use Rattle.caldate_answers.specs.declared.request.Filter.{Filter}
use Rattle.caldate_lines.specs.declared.no_answer.NoAnswer.{NoAnswer}
use Rattle.caldate_answers.proofs.ShapeBytes.{branch-first, byte_passes, digit_at, digits, in-digits, in-only, one_at, only, passes_at}
use Rattle.caldate_answers.proofs.TextEnds.{iso_bound, iso_end, six_bound, six_end}
use Rattle.caldate_answers.proofs.TextBounds.{iso_within, short_form}

-- ---- a text in one of the six forms
abbrev digits_or_hyphen : ℕ → ℕ → Bool
digits_or_hyphen low above = digits low above || only 45 low above

in-either : (low above x : ℕ) → digits_or_hyphen low above ≡ true → IsIn low above x → is_digit_or_hyphen x ≡ true
in-either low above x e h = elim (or_cases (digits low above) (only 45 low above) e) as (λ _. is_digit_or_hyphen x ≡ true) [
  | inl digit ↦ rw (in-digits low above x digit h) refl
  | inr hyphen ↦ rw (in-only 45 low above x hyphen h) refl
]

either_at : (i : ℕ) (f : Shape) (bytes : List ℕ) → passes_at digits_or_hyphen i f ≡ true → unmatched_bytes f bytes ≡ 0 → is_digit_or_hyphen (slice_index bytes i) ≡ true
either_at = byte_passes digits_or_hyphen (λ x. is_digit_or_hyphen x ≡ true) in-either

four_digits : (f : Shape) (bytes : List ℕ) → unmatched_bytes (Digits 4 (Byte 45 f)) bytes ≡ 0 → StartsAsUsual bytes
four_digits f bytes e =
    let g = Digits 4 (Byte 45 f) in
    rw (digit_at 0 g bytes refl e, digit_at 1 g bytes refl e, digit_at 2 g bytes refl e, digit_at 3 g bytes refl e, one_at 45 4 g bytes refl e) refl

-- the bytes after a sign
abbrev after_sign : List ℕ → Bool
after_sign bytes = is_digit_or_hyphen (slice_index bytes 4) && are_digits bytes 0

after_plus : (bytes : List ℕ) → unmatched_bytes (YearAfterPlus after_year) bytes ≡ 0 → after_sign bytes ≡ true
after_plus bytes e =
    let f = YearAfterPlus after_year in
    rw (digit_at 0 f bytes refl e, digit_at 1 f bytes refl e, digit_at 2 f bytes refl e, digit_at 3 f bytes refl e, either_at 4 f bytes refl e) refl

after_minus : (bytes : List ℕ) → unmatched_bytes (YearAfterMinus after_year) bytes ≡ 0 → after_sign bytes ≡ true
after_minus bytes e =
    let f = YearAfterMinus after_year in
    rw (digit_at 0 f bytes refl e, digit_at 1 f bytes refl e, digit_at 2 f bytes refl e, digit_at 3 f bytes refl e, either_at 4 f bytes refl e) refl

date_start : (bytes : List ℕ) → 0 < length bytes → unmatched_bytes date bytes ≡ 0 → StartsAsUsual bytes
date_start [] some e = absurd (omega (arith, some))
date_start (x ∷ xs) some e =
    elim (branch-first 43 0 _ _ x xs e) as (λ _. StartsAsUsual (x ∷ xs)) [
      | inl plus ↦ subst (λ x. StartsAsUsual (x ∷ xs)) (sym (one 43 plus.0)) (after_plus xs plus.1)
      | inr unsigned ↦ elim (branch-first 45 0 _ _ x xs unsigned) as (λ _. StartsAsUsual (x ∷ xs)) [
        | inl minus ↦ subst (λ x. StartsAsUsual (x ∷ xs)) (sym (one 45 minus.0)) (after_minus xs minus.1)
        | inr digits ↦ four_digits after_year (x ∷ xs) digits
      ]
    ]
  where
    one : (y : ℕ) → IsIn y 0 x → x ≡ y
    one y is = omega (arith, is.0, is.1)

julian_start : (bytes : List ℕ) → unmatched_bytes julian_day bytes ≡ 0 → StartsAsUsual bytes
julian_start bytes e = rw (one_at 74 0 julian_day bytes refl e, either_at 1 julian_day bytes refl e) refl

unix_start : (bytes : List ℕ) → unmatched_bytes unix_time bytes ≡ 0 → StartsAsUsual bytes
unix_start bytes e = rw (one_at 64 0 unix_time bytes refl e, either_at 1 unix_time bytes refl e) refl

six_start : (bytes : List ℕ) → 0 < length bytes → HasAnyForm bytes → StartsAsUsual bytes
six_start bytes some (inl h) = date_start bytes some (date_shape.each bytes h)
six_start bytes some (inr (inl h)) = julian_start bytes (julian_shape.each bytes h)
six_start bytes some (inr (inr (inl h))) = four_digits _ bytes (moment_shapes.each (length bytes) bytes (omega arith) h)
six_start bytes some (inr (inr (inr h))) = unix_start bytes (unix_shape.each bytes h)

-- ---- the bytes after a text don't matter
-- the first six bytes are the same, or lacking
abbrev Covers : List ℕ → List ℕ → Type 0
Covers bytes few = (i : ℕ) → i ≤ 5 → (slice_index few i ≡ 0) ⊎ (slice_index few i ≡ slice_index bytes i)

kept : (p : ℕ → Bool) (x y : ℕ) → p 0 ≡ false → (x ≡ 0) ⊎ (x ≡ y) → p x ≡ true → p y ≡ true
kept p x y off (inl none) e = absurd (false≢true (sym off ∙ ap p (sym none) ∙ e))
kept p x y off (inr same) e = ap p (sym same) ∙ e

and_kept : (a b c d : Bool) → (a ≡ true → c ≡ true) → (b ≡ true → d ≡ true) → (a && b) ≡ true → (c && d) ≡ true
and_kept a b c d f g e = let all = and_parts a b e in rw (f all.0, g all.1) refl

digit_kept : (bytes few : List ℕ) → Covers bytes few → (i : ℕ) → i ≤ 5 → is_digit (slice_index few i) ≡ true → is_digit (slice_index bytes i) ≡ true
digit_kept bytes few same i most = kept is_digit (slice_index few i) (slice_index bytes i) refl (same i most)

digits_kept : (bytes few : List ℕ) → Covers bytes few → (k : ℕ) → k ≤ 1 → are_digits few k ≡ true → are_digits bytes k ≡ true
digits_kept bytes few same k least =
    let digit = digit_kept bytes few same in
    and_kept _ _ _ _ (digit k (omega (arith, least))) (and_kept _ _ _ _ (digit (k + 1) (omega (arith, least)))
    (and_kept _ _ _ _ (digit (k + 2) (omega (arith, least))) (digit (k + 3) (omega (arith, least)))))

abbrev choice : Bool → Bool → Bool → Bool → Bool → Bool → Bool
choice digit sign mark a b c = if digit then a else if sign then b else mark && c

choice_kept : (digit sign mark a b c d e f : Bool) → (a ≡ true → d ≡ true) → (b ≡ true → e ≡ true) → (c ≡ true → f ≡ true)
    → choice digit sign mark a b c ≡ true → choice digit sign mark d e f ≡ true
choice_kept true sign mark a b c d e f first second third h = first h
choice_kept false true mark a b c d e f first second third h = second h
choice_kept false false true a b c d e f first second third h = third h
choice_kept false false false a b c d e f first second third h = h

usual_kept : (bytes few : List ℕ) → Covers bytes few → StartsAsUsual few → StartsAsUsual bytes
usual_kept bytes few same e = elim (same 0 (omega arith)) as (λ _. StartsAsUsual bytes) [
  | inl none ↦ absurd (false≢true (ap (start few) (sym none) ∙ e))
  | inr first ↦ choice_kept (is_digit x) (is_sign x) (x == 64 || x == 74) _ _ _ _ _ _
      (and_kept _ _ _ _ (byte (λ y. y == 45) 4 refl (omega arith)) (digits_kept bytes few same 0 (omega arith)))
      (and_kept _ _ _ _ (byte is_digit_or_hyphen 5 refl (omega arith)) (digits_kept bytes few same 1 (omega arith)))
      (byte is_digit_or_hyphen 1 refl (omega arith)) (ap (start few) (sym first) ∙ e)
]
  where
    x : ℕ
    x = slice_index bytes 0

    start : List ℕ → ℕ → Bool
    start l x =
        choice (is_digit x) (is_sign x) (x == 64 || x == 74) (slice_index l 4 == 45 && are_digits l 0) (is_digit_or_hyphen (slice_index l 5) && are_digits l 1)
        (is_digit_or_hyphen (slice_index l 1))

    byte : (p : ℕ → Bool) (i : ℕ) → p 0 ≡ false → i ≤ 5 → p (slice_index few i) ≡ true → p (slice_index bytes i) ≡ true
    byte p i off most = kept p (slice_index few i) (slice_index bytes i) off (same i most)

few_begin : (bytes : List ℕ) → is_usual_start bytes ≡ false → Bounds (HasFormIn reading.Any) bytes (min 5 (length bytes))
few_begin bytes off = record {
  within = omega arith;
  begins = λ n fits is. elim (cases_lt 5 n) as (λ _. n ≤ min 5 (length bytes)) [
    | inl some ↦ (
        let front = take n bytes in
        let size = length-take-le n bytes fits in
        let long : 0 < length (front ++ is.more) = omega (arith, some, size, length-append front is.more) in
        let same : Covers bytes (front ++ is.more) = λ i most. inr (get_or_append_left front is.more 0 i (omega (arith, some, size, most)) ∙ get_or-take n bytes i 0 (omega (arith, some, most))) in
        absurd (false≢true (sym off ∙ usual_kept bytes (front ++ is.more) same (six_start (front ++ is.more) long is.text)))
        )
    | inr few ↦ omega (arith, few, fits)
  ];
}

iso_start : (bytes : List ℕ) → 0 < length bytes → IsSomeAnd (full_by Iso bytes) HasAnyForm → StartsAsUsual bytes
iso_start bytes some h = at (is_usual_start bytes) refl
  where
    at : (b : Bool) → is_usual_start bytes ≡ b → StartsAsUsual bytes
    at true e = e
    at false off =
        let same = take_all (length bytes) bytes (omega arith) in
        let none = iso_within bytes (min 5 (length bytes)) (few_begin bytes off) (omega arith) (length bytes) (omega arith)
        (subst (λ text. IsSomeAnd (full_by Iso text) HasAnyForm) (sym same) h) in
        six_start bytes some (short_form bytes (omega (arith, none)) h)

-- ---- one form
six_usual : (bytes : List ℕ) → 0 < length bytes → HasAnyForm bytes → IsUsual bytes
six_usual bytes some h = record { start = six_start bytes some h; end = six_end bytes some h; bound = six_bound bytes h }

pub any_usual : (r : Reading) (bytes : List ℕ) → r ≡ reading.Any → 0 < length bytes → HasFormIn r bytes → IsUsual bytes
any_usual r bytes e some h = six_usual bytes some (subst (λ r. HasFormIn r bytes) e h)

pub iso_usual : (s : Spelling) (bytes : List ℕ) → s ≡ Iso → 0 < length bytes → IsSomeAnd (full_by s bytes) HasAnyForm → IsUsual bytes
iso_usual s bytes e some h =
    let is = subst (λ s. IsSomeAnd (full_by s bytes) HasAnyForm) e h in
    record { start = iso_start bytes some is; end = iso_end bytes some is; bound = iso_bound bytes is }

-- ---- all forms
pub each_text : (P : List ℕ → Type 0) (filter : Filter) (readers : List Reader) → readers ≡ filter.readers
    → ((assumptions : Assumptions) (bytes : List ℕ) (found : DateOrMoment) → 0 < length bytes → IsFoundBy assumptions readers bytes found → P bytes)
    → ((assumptions : Assumptions) (bytes : List ℕ) (any : NoAnswer) → 0 < length bytes → IsUnread assumptions readers bytes any → has_form any ≡ true → P bytes)
    → (bytes : List ℕ) → IsText filter bytes → P bytes
each_text P filter readers same found rejected bytes (some, inl h) = found filter.assumptions bytes h.1.0 some (subst (λ rs. IsFoundBy filter.assumptions rs bytes h.1.0) (sym same) h.1.1)
each_text P filter readers same found rejected bytes (some, inr (any, inl h, e)) =
    rejected filter.assumptions bytes any some (subst (λ rs. IsUnread filter.assumptions rs bytes any) (sym same) h) e
each_text P filter readers same found rejected bytes (some, inr (any, inr h, e)) =
    found filter.assumptions bytes h.0 some (subst (λ rs. IsFoundBy filter.assumptions rs bytes h.0) (sym same) h.1)

-- no text begins at a place with another start
none_starts : (start : List ℕ → Bool) → ((bytes few : List ℕ) → Covers bytes few → start few ≡ true → start bytes ≡ true)
    → (filter : Filter) (line : List ℕ) (k n : ℕ) → ((bytes : List ℕ) → IsText filter bytes → start bytes ≡ true) → start (drop k line) ≡ false → IsTextAt filter line k n → ⊥
none_starts start stays filter line k n each off h = false≢true (sym off ∙ stays (drop k line) (part_at line k n) same (each (part_at line k n) h.is))
  where
    same : Covers (drop k line) (part_at line k n)
    same i most = elim (cases_lt i n) as (λ _. (slice_index (part_at line k n) i ≡ 0) ⊎ (slice_index (part_at line k n) i ≡ slice_index (drop k line) i)) [
      | inl within ↦ inr (get_or-take n (drop k line) i 0 within)
      | inr past ↦ inl (get_or-eq_default (part_at line k n) 0 (omega (arith, past, length-take n (drop k line))))
    ]

pub none_usual : (filter : Filter) (line : List ℕ) (k n : ℕ) → AreUsual filter → is_usual_start (drop k line) ≡ false → IsTextAt filter line k n → ⊥
none_usual filter line k n usual = none_starts is_usual_start usual_kept filter line k n (λ bytes is. (usual bytes is).start)

pub none_digits : (filter : Filter) (line : List ℕ) (k n : ℕ) → StartWithDigits filter → starts_with_digits (drop k line) ≡ false → IsTextAt filter line k n → ⊥
none_digits = none_starts starts_with_digits (λ bytes few same. and_kept _ _ _ _ (digit_kept bytes few same 0 (omega arith)) (digit_kept bytes few same 1 (omega arith)))

-- How long a text at the front of some bytes can be.
use Rattle.std.proofs.Common.{◌≡◌, inl, inr, ℕ, zero, suc, ◌+◌, ◌-◌, ◌<◌, ◌≤◌, Bool, true, false, List, [], ◌∷◌, ◌++◌, append-nil, append_assoc, length, length-append, length-drop, take, take-append-drop, drop, Option, Some, None, refl, sym, ap, subst, ◌∙◌, arith}
use Rattle.std.specs.Prelude.{ℤ, IsSomeAnd, codes, min, nat_lt, slice_index, unsigned_abs, if◌then◌else◌, ◌^◌, ◌==◌}
use Rattle.std.proofs.lemmas.Bool.{cases_lt, false≢true, le-ltb, lt-ltb}
use Rattle.std.proofs.lemmas.Bool.Decides.{nat_tests}
use Rattle.std.proofs.lemmas.Int.{ints}
use Rattle.std.proofs.lemmas.List.{get_or-take, length-take-le, take-append-le, take-take}
use Rattle.std.proofs.Math.Seq.{take-add}
use Rattle.cal_time.specs.Date.{IsDate, julian_day_at}
use Rattle.cal_time.specs.declared.error.ComponentRange.{ComponentRange}
use Rattle.cal_datetime.specs.OffsetDateTime.{LocalAndOffset}
use Rattle.cal_format.specs.Form.{HasForm}
use Rattle.cal_format.specs.Moment.{moment_of_date, moment_of_date_time, moment_of_offset_date_time}
use Rattle.cal_format.specs.Reading.{DeterminesDate, DeterminesDateTime, DeterminesOffsetDateTime}
use Rattle.cal_format.specs.declared.item.Item.{Item}
use Rattle.cal_format.proofs.Moments.{date-holds, date_time-holds, moment-holds}
use Rattle.cal_format.proofs.Own.{has-own}
use Rattle.cal_format.proofs.Shapes.{has-form}
use Rattle.cal_text.specs.AnyForm.{HasAnyForm, IsDateOrMomentError, IsTextOf}
use Rattle.cal_text.specs.Position.{Begins, IsPosition}
use Rattle.cal_text.specs.declared.any.DateForm.TheVariants.{Calendar, Ordinal, Week, JulianDay}
use Rattle.cal_text.specs.declared.any.DateOrMoment.{DateOrMoment}
use Rattle.cal_text.specs.declared.any.DateOrMoment.TheVariants.{Date, Moment}
use Rattle.cal_text.specs.declared.any.MomentForm.TheVariants.{Rfc3339, Unix}
use Rattle.cal_text.proofs.DayForms.{calendar-of, ordinal-of, week-of}
use Rattle.cal_text.proofs.Positions.{begins_less}
use Rattle.caldate_answers.specs.Readers.{IsDateText, IsDateTimeText, IsFoundBy, IsMomentText, IsUnread, IsUnreadBy, IsUnreadIn, IsUnspelled, has_form}
use Rattle.caldate_answers.specs.Readings.{HasFormIn, IsErrorIn, IsTextIn}
use Rattle.caldate_answers.specs.Scans.{Bounds, IsText}
use Rattle.caldate_answers.specs.Spellings.{begins_with_at, full_by, is_sign, iso_text, unix_text, with_colon, with_point}
use Rattle.caldate_answers.specs.declared.reading.Reading.{Reading}
use Rattle.caldate_answers.specs.declared.reading.Reading.TheVariants as reading
use Rattle.caldate_answers.specs.declared.reading.reader.Assumptions.{Assumptions}
use Rattle.caldate_answers.specs.declared.reading.reader.Reader.{Reader}
use Rattle.caldate_answers.specs.declared.reading.spelling.Spelling.{Spelling}
use Rattle.caldate_answers.specs.declared.reading.spelling.Spelling.TheVariants.{Iso, Seconds}
use Rattle.caldate_answers.specs.declared.request.Filter.{Filter}
use Rattle.caldate_lines.specs.declared.no_answer.NoAnswer.{NoAnswer}
use Rattle.caldate_lines.specs.declared.no_answer.NoAnswer.TheVariants as why
use Rattle.caldate_answers.proofs.FirstForms.{unread_rest}

-- ---- a text has its form
small : (n : ℕ) → IsDate n → unsigned_abs (julian_day_at n) < 10 ^ 9
small n date = omega (arith, ints, date)

pub any_form : (bytes : List ℕ) (found : DateOrMoment) → IsTextOf bytes found → HasAnyForm bytes
any_form bytes (Date Calendar n) is = inl (_, (calendar-of bytes n is.0 is.1).0)
any_form bytes (Date Ordinal n) is = inl (_, (ordinal-of bytes n is.0 is.1).0)
any_form bytes (Date Week n) is = inl (_, (week-of bytes n is.0 is.1).0)
any_form bytes (Date JulianDay n) is = inr (inl (julian_day_at n, record { digits = small n is.0; bytes_are = is.1 }))
any_form bytes (Moment Rfc3339 m) is = inr (inr (inl (is.0, is.1)))
any_form bytes (Moment Unix m) is = inr (inr (inr (_, is.form)))

pub error_form : (bytes : List ℕ) (any : ComponentRange) → IsDateOrMomentError bytes any → HasAnyForm bytes
error_form bytes any (inl h) = inl (h.0, h.1)
error_form bytes any (inr (inl h)) = inr (inl (h.0, h.1))
error_form bytes any (inr (inr (inl h))) = inr (inr (inl (h.0, h.1)))
error_form bytes any (inr (inr (inr h))) = inr (inr (inr (h.0, h.1)))

pub text_form : (r : Reading) (bytes : List ℕ) (found : DateOrMoment) → IsTextIn r bytes found → HasFormIn r bytes
text_form reading.Any bytes found h = any_form bytes found h
text_form (reading.Date order) bytes found h = (h.0, h.1)
text_form (reading.Unix unit) bytes found h = (h.0, h.1)
text_form (reading.Local offset) bytes found (m, text, is) = (text.1.0, (text.0, text.1.1))
text_form reading.IsoDate bytes found (n, text, is) = (text.0, text.1)
text_form reading.IsoMoment bytes found (m, text, is) = (text.0, text.1)
text_form (reading.IsoLocal offset) bytes found (z, text, is) = (text.0, text.1)

out_of_range_form : (r : Reading) (bytes : List ℕ) (any : ComponentRange) → IsErrorIn r bytes any → HasFormIn r bytes
out_of_range_form reading.Any bytes any h = error_form bytes any h
out_of_range_form (reading.Date order) bytes any h = (h.0, h.1)
out_of_range_form (reading.Unix unit) bytes any h = (h.1.0, h.1.1)
out_of_range_form (reading.Local offset) bytes any h = (h.0, h.1)
out_of_range_form reading.IsoDate bytes any h = (h.0, h.1)
out_of_range_form reading.IsoMoment bytes any h = (h.0, h.1)
out_of_range_form (reading.IsoLocal offset) bytes any h = (h.0, h.1)

pub rejected_form : (r : Reading) (bytes : List ℕ) (any : NoAnswer) → IsUnreadIn r bytes any → has_form any ≡ true → HasFormIn r bytes
rejected_form r bytes (why.Rejected component) h e = out_of_range_form r bytes component h
rejected_form r bytes (why.Unreadable at) h e = absurd (false≢true e)
rejected_form r bytes why.TooLong h e = absurd h
rejected_form r bytes (why.NoField missing) h e = absurd h
rejected_form r bytes why.UnreadOtherField h e = absurd h
rejected_form r bytes why.None h e = absurd h
rejected_form r bytes why.NoForm h e = absurd h
rejected_form r bytes why.Skipped h e = absurd h
rejected_form r bytes why.Repeated h e = absurd h

-- the same of a spelling
pub spelled_form : (full : Option (List ℕ)) (found : DateOrMoment) → IsSomeAnd full (λ full. IsTextOf full found) → IsSomeAnd full HasAnyForm
spelled_form None found h = h
spelled_form (Some full) found h = any_form full found h

unspelled_error : (full : Option (List ℕ)) (any : ComponentRange) → IsSomeAnd full (λ full. IsDateOrMomentError full any) → IsSomeAnd full HasAnyForm
unspelled_error None any h = h
unspelled_error (Some full) any h = error_form full any h

pub unspelled_form : (s : Spelling) (bytes : List ℕ) (any : NoAnswer) → IsUnspelled s bytes any → has_form any ≡ true → IsSomeAnd (full_by s bytes) HasAnyForm
unspelled_form s bytes any (inl h) e = unspelled_error (full_by s bytes) h.0 h.1
unspelled_form s bytes any (inr h) e = absurd (false≢true (sym (ap has_form h.1) ∙ e))

-- ---- how long a text can be
-- no text is longer than the part of the bytes that has the form
within_position : (IsForm : List ℕ → Type 0) (bytes : List ℕ) (p n : ℕ) → IsPosition IsForm bytes p → n ≤ length bytes → Begins IsForm (take n bytes) → n ≤ p
within_position IsForm bytes p n at fits is =
    elim (cases_lt p n) as (λ _. n ≤ p) [
      | inl past ↦ absurd (at.no_further (omega (arith, past, fits)) (begins_less IsForm bytes (p + 1) n (omega (arith, past)) is))
      | inr most ↦ most
    ]

pub bounds_at : (IsForm : List ℕ → Type 0) (bytes : List ℕ) (p : ℕ) → IsPosition IsForm bytes p → Bounds IsForm bytes p
bounds_at IsForm bytes p at = record { within = at.within; begins = λ n fits is. within_position IsForm bytes p n at fits is }

begun : (IsForm : List ℕ → Type 0) (bytes : List ℕ) → IsForm bytes → Begins IsForm bytes
begun IsForm bytes is = record { more = []; text = subst IsForm (sym (append-nil bytes)) is }

-- the bound for what begins the form is one for its texts
pub form_within : (IsForm : List ℕ → Type 0) (bytes : List ℕ) (bound n : ℕ) → Bounds IsForm bytes bound → n ≤ length bytes → IsForm (take n bytes) → n ≤ bound
form_within IsForm bytes bound n b fits is = b.begins n fits (begun IsForm (take n bytes) is)

-- ---- the texts of a format, of which the bytes have a front
pub front_within : (items : List Item) (bytes : List ℕ) (bound n : ℕ) (more : List ℕ) → Bounds (HasForm items) bytes bound → n ≤ length bytes → HasForm items (take n bytes ++ more)
    → n ≤ bound
front_within items bytes bound n more b fits form = b.begins n fits (record { more = more; text = form })

pub date_form : (items : List Item) (bytes : List ℕ) (d : ℕ) → DeterminesDate items → IsDateText items bytes d → HasForm items bytes
date_form items bytes d determines is =
    let holds = date-holds items d determines is.in_range is.held in
    has-form items _ bytes determines.0 (has-own items (moment_of_date d) bytes holds.in_range holds.numbers is.text_is)

pub moment_form : (items : List Item) (bytes : List ℕ) (m : LocalAndOffset) → DeterminesOffsetDateTime items → IsMomentText items bytes m → HasForm items bytes
moment_form items bytes m determines is =
    let holds = moment-holds items m determines is.local is.offset is.held is.time is.printed_offset in
    has-form items _ bytes determines.0 (has-own items (moment_of_offset_date_time m) bytes holds.in_range holds.numbers is.text_is)

pub date_time_form : (items : List Item) (bytes : List ℕ) (z : ℤ) → DeterminesDateTime items → IsDateTimeText items bytes z → HasForm items bytes
date_time_form items bytes z determines is =
    let holds = date_time-holds items z determines is.in_range is.held is.time in
    has-form items _ bytes determines.0 (has-own items (moment_of_date_time z) bytes holds.in_range holds.numbers is.text_is)

some_if : (b : Bool) (full : List ℕ) (P : List ℕ → Type 0) → IsSomeAnd (if b then None else Some full) P → b ≡ false
some_if true full P h = absurd h
some_if false full P h = refl

pub spelled_short : (s : Spelling) (bytes : List ℕ) → IsSomeAnd (full_by s bytes) HasAnyForm → length bytes ≤ 60
spelled_short Iso bytes h = let few = some_if (nat_lt 60 (length bytes)) (iso_text bytes) HasAnyForm h in grind (arith, nat_tests)
spelled_short Seconds bytes h = let few = some_if (nat_lt 60 (length bytes)) (unix_text bytes) HasAnyForm h in grind (arith, nat_tests)

-- ---- ISO 8601: the front stays
abbrev pub Keeps : ℕ → List ℕ → List ℕ → Type 0
Keeps k bytes full = (more : List ℕ) × (full ≡ take k bytes ++ more)

longer_front : (k m : ℕ) (bytes more : List ℕ) → k ≤ m → Keeps k bytes (take m bytes ++ more)
longer_front k m bytes more few = (
  drop k (take m bytes) ++ more,
  ap (λ l. l ++ more) (sym (take-append-drop k (take m bytes)) ∙ ap (λ l. l ++ drop k (take m bytes)) (take-take k m bytes few))
      ∙ append_assoc (take k bytes) (drop k (take m bytes)) more,
)

either_keeps : (b : Bool) (k : ℕ) (bytes full other : List ℕ) → Keeps k bytes full → Keeps k bytes other → Keeps k bytes (if b then full else other)
either_keeps true k bytes full other h h2 = h
either_keeps false k bytes full other h h2 = h2

pub colon_keeps : (k : ℕ) (bytes : List ℕ) → k + 2 ≤ length bytes → Keeps k bytes (with_colon bytes)
colon_keeps k bytes long =
    let m = length bytes - 2 in
    let last = if is_sign (slice_index bytes (length bytes - 3)) then codes ":00" else [] in
    either_keeps (is_sign (slice_index bytes (length bytes - 5))) k bytes (take m bytes ++ codes ":" ++ drop m bytes) (bytes ++ last)
    (subst (Keeps k bytes) (sym (append_assoc (take m bytes) (codes ":") (drop m bytes))) (longer_front k m bytes (codes ":" ++ drop m bytes) (omega (arith, long))))
    (drop k bytes ++ last, ap (λ l. l ++ last) (sym (take-append-drop k bytes)) ∙ append_assoc (take k bytes) (drop k bytes) last)

point_length : (b : Bool) (last : List ℕ) → length last ≡ 1 → length (if b then codes "." else last) ≡ 1
point_length true last h = refl
point_length false last h = h

pub point_keeps : (bytes : List ℕ) → 20 ≤ length bytes → (length (with_point bytes) ≡ length bytes) × (take 18 (with_point bytes) ≡ take 18 bytes)
point_keeps bytes long =
    let front = length-take-le 19 bytes (omega (arith, long)) in
    let last = take 1 (drop 19 bytes) in
    let one = point_length (slice_index bytes 19 == 44) last (length-take-le 1 (drop 19 bytes) (omega (arith, long, length-drop 19 bytes))) in
    let mid = if slice_index bytes 19 == 44 then codes "." else last in (
      omega (arith, long, front, one, length-append (take 19 bytes ++ mid) (drop 20 bytes), length-append (take 19 bytes) mid, length-drop 20 bytes),
      take-append-le 18 (take 19 bytes ++ mid) (drop 20 bytes) (omega (arith, front, length-append (take 19 bytes) mid))
          ∙ take-append-le 18 (take 19 bytes) mid (omega (arith, front)) ∙ take-take 18 19 bytes (omega arith),
    )

-- without a comma nothing changes before the offset
pub no_point : (bytes : List ℕ) → (slice_index bytes 19 == 44) ≡ false → with_point bytes ≡ bytes
no_point bytes e =
    ap (λ b. (take 19 bytes ++ (if b then codes "." else take 1 (drop 19 bytes))) ++ drop 20 bytes) e
    ∙ ap (λ l. l ++ drop 20 bytes) (sym (take-add 19 1 bytes)) ∙ take-append-drop 20 bytes

pub some_full : (b : Bool) (full : List ℕ) (P : List ℕ → Type 0) → IsSomeAnd (if b then None else Some full) P → P full
some_full true full P h = absurd h
some_full false full P h = h

-- a short text of ISO 8601 is in one of the six forms
pub short_form : (bytes : List ℕ) → length bytes < 20 → IsSomeAnd (full_by Iso bytes) HasAnyForm → HasAnyForm bytes
short_form bytes short h =
    let is = some_full (nat_lt 60 (length bytes)) (iso_text bytes) HasAnyForm h in
    let same : iso_text bytes ≡ bytes = ap (λ b. if b then bytes else with_colon (with_point bytes)) (lt-ltb (length bytes) 20 short) in
    subst HasAnyForm same is

-- a text of ISO 8601 whose first k bytes stay begins as in the six forms
iso_bound : (bytes : List ℕ) (bound k n : ℕ) → Bounds (HasFormIn reading.Any) bytes bound → n ≤ length bytes → k + 2 ≤ n
    → (20 ≤ n → (length (with_point (take n bytes)) ≡ n) × (take k (with_point (take n bytes)) ≡ take k bytes))
    → IsSomeAnd (full_by Iso (take n bytes)) HasAnyForm → k ≤ bound
iso_bound bytes bound k n b fits less stays h =
    let text = take n bytes in
    let many = length-take-le n bytes fits in
    let is = some_full (nat_lt 60 (length text)) (iso_text text) HasAnyForm h in
    let full_is : (b : Bool) → nat_lt (length text) 20 ≡ b → iso_text text ≡ (if b then text else with_colon (with_point text)) =
    λ b e. ap (λ b. if b then text else with_colon (with_point text)) e in
    elim (cases_lt n 20) as (λ _. k ≤ bound) [
      | inl short ↦ (
          let same = full_is true (lt-ltb (length text) 20 (omega (arith, many, short))) in
          let within = form_within (HasFormIn reading.Any) bytes bound n b fits (subst HasAnyForm same is) in
          omega (arith, within, less)
          )
      | inr long ↦ (
          let same = full_is false (le-ltb (length text) 20 (omega (arith, many, long))) in
          let kept = stays long in
          let colon = colon_keeps k (with_point text) (omega (arith, less, kept.0)) in
          let begins : Begins (HasFormIn reading.Any) (take k bytes) =
          record { more = colon.0; text = subst HasAnyForm (same ∙ colon.1 ∙ ap (λ l. l ++ colon.0) kept.1) is } in
          b.begins k (omega (arith, less, fits)) begins
          )
    ]

-- if the bytes leave the six forms so early, no text of ISO 8601 is longer
pub iso_within : (bytes : List ℕ) (bound : ℕ) → Bounds (HasFormIn reading.Any) bytes bound → bound < 18
    → (n : ℕ) → n ≤ length bytes → IsSomeAnd (full_by Iso (take n bytes)) HasAnyForm → n ≤ bound
iso_within bytes bound b few n fits h =
    elim (cases_lt n 20) as (λ _. n ≤ bound) [
      | inl short ↦ form_within (HasFormIn reading.Any) bytes bound n b fits (short_form (take n bytes) (omega (arith, length-take-le n bytes fits, short)) h)
      | inr long ↦ (
          let front = iso_bound bytes bound 18 n b fits (omega (arith, long)) (λ _. let kept = point_keeps (take n bytes) (omega (arith, long, length-take-le n bytes fits)) in
          (kept.0 ∙ length-take-le n bytes fits, kept.1 ∙ take-take 18 n bytes (omega (arith, long)))) h in
          absurd (omega (arith, few, front))
          )
    ]

-- without a comma, a text of ISO 8601 has at most two bytes more
pub iso_within_colon : (bytes : List ℕ) (bound : ℕ) → Bounds (HasFormIn reading.Any) bytes bound → (slice_index bytes 19 == 44) ≡ false
    → (n : ℕ) → n ≤ length bytes → IsSomeAnd (full_by Iso (take n bytes)) HasAnyForm → n ≤ bound + 2
iso_within_colon bytes bound b comma n fits h =
    elim (cases_lt n 2) as (λ _. n ≤ bound + 2) [
      | inl short ↦ omega (arith, short)
      | inr some ↦ (
          let front = iso_bound bytes bound (n - 2) n b fits (omega (arith, some)) (λ long.
          let same = no_point (take n bytes) (ap (λ x. x == 44) (get_or-take n bytes 19 0 (omega (arith, long))) ∙ comma) in
          (ap length same ∙ length-take-le n bytes fits, ap (take (n - 2)) same ∙ take-take (n - 2) n bytes (omega arith))) h in
          omega (arith, front, some)
          )
    ]

-- ---- seconds: an @ may come before the text
at_front : (n m : ℕ) (bytes : List ℕ) → 0 < n → n ≤ m → begins_with_at (take n bytes) ≡ begins_with_at (take m bytes)
at_front zero m bytes some few = absurd (omega (arith, some))
at_front (suc n) zero bytes some few = absurd (omega (arith, few))
at_front (suc n) (suc m) [] some few = refl
at_front (suc n) (suc m) (x ∷ xs) some few = refl

seconds_at : (b : Bool) (front : List ℕ) (bound n : ℕ) → Bounds (HasFormIn reading.Any) (if b then front else codes "@" ++ front) bound → n ≤ length front
    → HasAnyForm (if b then take n front else codes "@" ++ take n front) → n ≤ bound - (length (if b then front else codes "@" ++ front) - length front)
seconds_at true front bound n b fits form = let within = form_within (HasFormIn reading.Any) front bound n b fits form in omega (arith, within)
seconds_at false front bound n b fits form =
    let within = form_within (HasFormIn reading.Any) (codes "@" ++ front) bound (suc n) b (omega (arith, fits)) form in
    omega (arith, within)

pub seconds_within : (bytes : List ℕ) (m bound : ℕ) → m ≡ min (length bytes) 60 → Bounds (HasFormIn reading.Any) (unix_text (take m bytes)) bound
    → (n : ℕ) → n ≤ length bytes → IsSomeAnd (full_by Seconds (take n bytes)) HasAnyForm
    → n ≤ bound - (length (unix_text (take m bytes)) - length (take m bytes))
seconds_within bytes m bound is b zero fits h = omega arith
seconds_within bytes m bound is b (suc n) fits h =
    let short = spelled_short Seconds (take (suc n) bytes) h in
    let few : suc n ≤ m = omega (arith, is, fits, short, length-take-le (suc n) bytes fits) in
    let form = some_full (nat_lt 60 (length (take (suc n) bytes))) (unix_text (take (suc n) bytes)) HasAnyForm h in
    let front = take-take (suc n) m bytes few in
    let same = ap (λ l. if begins_with_at (take (suc n) bytes) then l else codes "@" ++ l) (sym front)
    ∙ ap (λ t. if t then take (suc n) (take m bytes) else codes "@" ++ take (suc n) (take m bytes)) (at_front (suc n) m bytes (omega arith) few) in
    seconds_at (begins_with_at (take m bytes)) (take m bytes) bound (suc n) b (omega (arith, few, is, length-take-le m bytes (omega (arith, is)))) (subst HasAnyForm same form)

-- ---- all forms
-- a text that is out of range has the first form or another one
pub rejected_by : {P : Type 0} (assumptions : Assumptions) (r : Reader) (rs : List Reader) (bytes : List ℕ) (any : NoAnswer)
    → ((own : NoAnswer) → IsUnreadBy assumptions r bytes own → has_form own ≡ true → P) → ((later : NoAnswer) → IsUnread assumptions rs bytes later → has_form later ≡ true → P)
    → IsUnread assumptions (r ∷ rs) bytes any → has_form any ≡ true → P
rejected_by {P} assumptions r rs bytes any first other h e =
    let (own, later, own_is, later_is, same) = h.why_is in
    either (has_form own) (has_form later) own later refl refl own_is (unread_rest assumptions r rs bytes any later h later_is) (sym (ap has_form same) ∙ e)
  where
    either : (b d : Bool) (own later : NoAnswer) → has_form own ≡ b → has_form later ≡ d → IsUnreadBy assumptions r bytes own → IsUnread assumptions rs bytes later
        → has_form (if b then own else if d then later else own) ≡ true → P
    either true d own later f g is more e = first own is e
    either false true own later f g is more e = other later more e
    either false false own later f g is more e = first own is e

pub none_longer : (filter : Filter) (readers : List Reader) (bytes : List ℕ) (bound : ℕ) → readers ≡ filter.readers
    → ((n : ℕ) (found : DateOrMoment) → n ≤ length bytes → IsFoundBy filter.assumptions readers (take n bytes) found → n ≤ bound)
    → ((n : ℕ) (any : NoAnswer) → n ≤ length bytes → IsUnread filter.assumptions readers (take n bytes) any → has_form any ≡ true → n ≤ bound)
    → (n : ℕ) → bound < n → n ≤ length bytes → IsText filter (take n bytes) → ⊥
none_longer filter readers bytes bound same found rejected n past fits (some, inl h) =
    omega (arith, past, found n h.1.0 fits (subst (λ rs. IsFoundBy filter.assumptions rs (take n bytes) h.1.0) (sym same) h.1.1))
none_longer filter readers bytes bound same found rejected n past fits (some, inr (any, inl h, e)) =
    omega (arith, past, rejected n any fits (subst (λ rs. IsUnread filter.assumptions rs (take n bytes) any) (sym same) h) e)
none_longer filter readers bytes bound same found rejected n past fits (some, inr (any, inr h, e)) =
    omega (arith, past, found n h.0 fits (subst (λ rs. IsFoundBy filter.assumptions rs (take n bytes) h.0) (sym same) h.1))

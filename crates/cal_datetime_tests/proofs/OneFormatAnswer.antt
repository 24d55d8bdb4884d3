-- The contract of a parser allows only one result.
use Rattle.std.proofs.Common.{◌≡◌, ◌⊎◌, ◌∙◌, ℕ, ◌+◌, ◌<◌, List, length, drop, ap, sym, refl, subst, inl, inr, arith, Result, Ok, Err}
use Rattle.std.specs.Prelude.{Bool, true, false, IsTrue, not, ◌||◌, IfOk, IfErr, pos}
use Rattle.std.proofs.lemmas.Int.{ints}
use Rattle.std.proofs.lemmas.List.{take-append-drop}
use Rattle.cal_units.specs.declared.error.Component.{Component as Named}
use Rattle.cal_units.specs.declared.error.ComponentRange.{ComponentRange}
use Rattle.cal_time.specs.Date.{IsDate}
use Rattle.cal_time.specs.Laws.{calendar_date-one, iso_week_date-one, ordinal_date-one}
use Rattle.cal_text.specs.Position.{IsPosition}
use Rattle.cal_text.proofs.Positions.{one_position}
use Rattle.cal_format.specs.declared.error.ParseError.{ParseError}
use Rattle.cal_format.specs.declared.error.ParseError.TheVariants.{UnexpectedByte, UnexpectedEnd, OutOfRange, Contradiction}
use Rattle.cal_format.specs.declared.item.Component.{Component}
use Rattle.cal_format.specs.declared.item.Component.TheVariants.{IsoYear, Month, Day, Ordinal, IsoWeek}
use Rattle.cal_format.specs.declared.item.Item.{Item}
use Rattle.cal_format.specs.Form.{HasForm, HasNumbers}
use Rattle.cal_format.specs.Moment.{timestamp_of}
use Rattle.cal_format.specs.Reading.{are_apart, shows_calendar_date, shows_iso_week_date, shows_ordinal_date, shows_timestamp}
use Rattle.cal_format.specs.Rejection.{IsContradiction, IsNumberRejection, IsRangeError, IsRejection}
use Rattle.cal_format.specs.Values.{first_contradiction, IsDateOf, IsMomentOf, weekday_in, year_in}
use Rattle.cal_format.proofs.Outcomes.{no-result, no-value, same-value}
use Rattle.cal_format.proofs.Shapes.{has-form}
use Rattle.cal_format.proofs.Uniques.{one-numbers}

-- ---- the moment of numbers
decide : (b : Bool) → IsTrue b ⊎ IsTrue (not b)
decide true = inl refl
decide false = inr refl

none_of_three : (a b c : Bool) → IsTrue (not a) → IsTrue (not b) → IsTrue (not c) → IsTrue (not (a || (b || c)))
none_of_three false false false x y z = refl
none_of_three true b c x y z = cc
none_of_three false true c x y z = cc
none_of_three false false true x y z = cc

week_date-one : (items : List Item) (at : Component → ℕ) (m n : ℕ) → IsDate m → IsDate n → IsDateOf items at m → IsDateOf items at n → IsTrue (not (shows_calendar_date items))
    → IsTrue (not (shows_ordinal_date items)) → IsTrue (shows_iso_week_date items) ⊎ IsTrue (not (shows_iso_week_date items)) → m ≡ n
week_date-one items at m n h k a b c o (inl w) = iso_week_date-one (pos (at IsoYear)) (at IsoWeek) (weekday_in items at) m n h k (a.week c o w) (b.week c o w)
week_date-one items at m n h k a b c o (inr w) =
    let none = none_of_three (shows_calendar_date items) (shows_ordinal_date items) (shows_iso_week_date items) c o w in
    a.none none ∙ sym (b.none none)

ordinal-one : (items : List Item) (at : Component → ℕ) (m n : ℕ) → IsDate m → IsDate n → IsDateOf items at m → IsDateOf items at n → IsTrue (not (shows_calendar_date items))
    → IsTrue (shows_ordinal_date items) ⊎ IsTrue (not (shows_ordinal_date items)) → m ≡ n
ordinal-one items at m n h k a b c (inl o) = ordinal_date-one (pos (year_in items at)) (at Ordinal) m n h k (a.ordinal c o) (b.ordinal c o)
ordinal-one items at m n h k a b c (inr o) = week_date-one items at m n h k a b c o (decide (shows_iso_week_date items))

date-one : (items : List Item) (at : Component → ℕ) (m n : ℕ) → IsDate m → IsDate n → IsDateOf items at m → IsDateOf items at n
    → IsTrue (shows_calendar_date items) ⊎ IsTrue (not (shows_calendar_date items)) → m ≡ n
date-one items at m n h k a b (inl c) = calendar_date-one (pos (year_in items at)) (at Month) (at Day) m n h k (a.calendar c) (b.calendar c)
date-one items at m n h k a b (inr c) = ordinal-one items at m n h k a b c (decide (shows_ordinal_date items))

moment-one : (items : List Item) (at : Component → ℕ) (v w : _) → IsMomentOf items at v → IsMomentOf items at w → IsTrue (shows_timestamp items) ⊎ IsTrue (not (shows_timestamp items)) → v ≡ w
moment-one items at v w a b (inl s) =
    let offset = a.offset ∙ sym (b.offset) in
    let seconds : timestamp_of v ≡ timestamp_of w = (a.timestamp s).0 ∙ sym (b.timestamp s).0 in
    let nanoseconds = (a.timestamp s).1 ∙ sym (b.timestamp s).1 in
    let date : v.date ≡ w.date = omega (arith, ints, offset, seconds, a.in_range.time.below_day, b.in_range.time.below_day) in
    let time : v.time ≡ w.time = omega (arith, ints, offset, seconds, nanoseconds, a.in_range.time.below_day, b.in_range.time.below_day) in
    λ i. record { date = date i; time = time i; offset = offset i }
moment-one items at v w a b (inr s) =
    let offset = a.offset ∙ sym (b.offset) in
    let date = date-one items at v.date w.date a.in_range.date b.in_range.date (a.date s) (b.date s) (decide (shows_calendar_date items)) in
    let time = a.time s ∙ sym (b.time s) in
    λ i. record { date = date i; time = time i; offset = offset i }

-- ---- the error of numbers
range-one : (items : List Item) (numbers : List ℕ) (x y : ComponentRange) → IsRangeError items numbers x → IsRangeError items numbers y → x ≡ y
range-one items numbers x y (inl a) (inl b) = same-value x y (sym a ∙ b)
range-one items numbers x y (inl a) (inr b) = absurd (no-value x (sym b.0 ∙ a))
range-one items numbers x y (inr a) (inl b) = absurd (no-value y (sym a.0 ∙ b))
range-one items numbers x y (inr a) (inr b) = a.1 ∙ sym b.1

no-both : (items : List Item) (numbers : List ℕ) (x : ComponentRange) (c : Named) → IsRangeError items numbers x → IsContradiction items numbers c → ⊥
no-both items numbers x c (inl a) b = no-value x (sym b.0 ∙ a)
no-both items numbers x c (inr a) b = a.2 b.1.0 b.1.1

contradiction-one : (items : List Item) (numbers : List ℕ) (c d : Named) → IsContradiction items numbers c → IsContradiction items numbers d → c ≡ d
contradiction-one items numbers c d a b =
    let same = moment-one items _ a.1.0 b.1.0 a.1.1 b.1.1 (decide (shows_timestamp items)) in
    same-value c d (sym a.1.2 ∙ ap (first_contradiction items numbers) same ∙ b.1.2)

number_error-one : (items : List Item) (numbers : List ℕ) (e f : ParseError) → IsNumberRejection items numbers e → IsNumberRejection items numbers f → e ≡ f
number_error-one items numbers (OutOfRange x) (OutOfRange y) a b = ap OutOfRange (range-one items numbers x y a b)
number_error-one items numbers (OutOfRange x) (Contradiction d) a b = absurd (no-both items numbers x d a b)
number_error-one items numbers (Contradiction c) (OutOfRange y) a b = absurd (no-both items numbers y c b a)
number_error-one items numbers (Contradiction c) (Contradiction d) a b = ap Contradiction (contradiction-one items numbers c d a b)
number_error-one items numbers (OutOfRange x) (UnexpectedByte q) a b = absurd b
number_error-one items numbers (OutOfRange x) (UnexpectedEnd q) a b = absurd b
number_error-one items numbers (Contradiction c) (UnexpectedByte q) a b = absurd b
number_error-one items numbers (Contradiction c) (UnexpectedEnd q) a b = absurd b
number_error-one items numbers (UnexpectedByte p) f a b = absurd a
number_error-one items numbers (UnexpectedEnd p) f a b = absurd a

-- ---- the error of a text
-- A text has the numbers of one value at most, and then it has the form.
pub record IsOneForm (IsForm : List ℕ → Type 0) (Has : List ℕ → List ℕ → Type 0) : Type 0 where
  pub one : (ns ms text : List ℕ) → Has ns text → Has ms text → ns ≡ ms
  pub formed : (ns text : List ℕ) → Has ns text → IsForm text

-- The text has numbers, which are not those of a value.
abbrev pub HasNumberError : (List ℕ → List ℕ → Type 0) → List Item → List ℕ → ParseError → Type 0
HasNumberError Has items text e = (numbers : List ℕ) × Has numbers text × IsNumberRejection items numbers e

-- The error of a text: it stops matching the form, or its numbers are not those of a value.
abbrev pub IsFormError : (List ℕ → Type 0) → (List ℕ → List ℕ → Type 0) → List Item → List ℕ → ParseError → Type 0
IsFormError IsForm Has items text (UnexpectedByte p) = IsPosition IsForm text p × (p < length text)
IsFormError IsForm Has items text (UnexpectedEnd p) = IsPosition IsForm text p × (p ≡ length text) × ¬ IsForm text
IsFormError IsForm Has items text e = HasNumberError Has items text e

both_numbers : (IsForm : List ℕ → Type 0) (Has : List ℕ → List ℕ → Type 0) (items : List Item) (text : List ℕ) (e f : ParseError) → IsOneForm IsForm Has → HasNumberError Has items text e → HasNumberError Has items text f → e ≡ f
both_numbers IsForm Has items text e f form a b =
    let same : a.0 ≡ b.0 = form.one a.0 b.0 text a.1 b.1 in
    number_error-one items b.0 e f (subst (λ numbers. IsNumberRejection items numbers e) same a.2) b.2

-- A text that has the form doesn't stop before its end.
no-byte : (IsForm : List ℕ → Type 0) (text : List ℕ) (p : ℕ) → IsForm text → IsPosition IsForm text p → p < length text → ⊥
no-byte IsForm text p form at less = at.no_further less (record { more = drop (p + 1) text; text = subst IsForm (sym (take-append-drop (p + 1) text)) form })

error-one : (IsForm : List ℕ → Type 0) (Has : List ℕ → List ℕ → Type 0) (items : List Item) (text : List ℕ) (e f : ParseError) → IsOneForm IsForm Has → IsFormError IsForm Has items text e → IsFormError IsForm Has items text f → e ≡ f
error-one IsForm Has items text (UnexpectedByte p) (UnexpectedByte q) form a b = ap UnexpectedByte (one_position IsForm text p q a.0 b.0)
error-one IsForm Has items text (UnexpectedByte p) (UnexpectedEnd q) form a b = absurd (omega (arith, one_position IsForm text p q a.0 b.0, a.1, b.1))
error-one IsForm Has items text (UnexpectedEnd p) (UnexpectedByte q) form a b = absurd (omega (arith, one_position IsForm text p q a.0 b.0, a.1, b.1))
error-one IsForm Has items text (UnexpectedEnd p) (UnexpectedEnd q) form a b = ap UnexpectedEnd (a.1 ∙ sym b.1)
error-one IsForm Has items text (UnexpectedByte p) (OutOfRange y) form a b = absurd (no-byte IsForm text p (form.formed b.0 text b.1) a.0 a.1)
error-one IsForm Has items text (UnexpectedByte p) (Contradiction d) form a b = absurd (no-byte IsForm text p (form.formed b.0 text b.1) a.0 a.1)
error-one IsForm Has items text (UnexpectedEnd p) (OutOfRange y) form a b = absurd (a.2 (form.formed b.0 text b.1))
error-one IsForm Has items text (UnexpectedEnd p) (Contradiction d) form a b = absurd (a.2 (form.formed b.0 text b.1))
error-one IsForm Has items text (OutOfRange x) (UnexpectedByte q) form a b = absurd (no-byte IsForm text q (form.formed a.0 text a.1) b.0 b.1)
error-one IsForm Has items text (OutOfRange x) (UnexpectedEnd q) form a b = absurd (b.2 (form.formed a.0 text a.1))
error-one IsForm Has items text (Contradiction c) (UnexpectedByte q) form a b = absurd (no-byte IsForm text q (form.formed a.0 text a.1) b.0 b.1)
error-one IsForm Has items text (Contradiction c) (UnexpectedEnd q) form a b = absurd (b.2 (form.formed a.0 text a.1))
error-one IsForm Has items text (OutOfRange x) (OutOfRange y) form a b = both_numbers IsForm Has items text (OutOfRange x) (OutOfRange y) form a b
error-one IsForm Has items text (OutOfRange x) (Contradiction d) form a b = both_numbers IsForm Has items text (OutOfRange x) (Contradiction d) form a b
error-one IsForm Has items text (Contradiction c) (OutOfRange y) form a b = both_numbers IsForm Has items text (Contradiction c) (OutOfRange y) form a b
error-one IsForm Has items text (Contradiction c) (Contradiction d) form a b = both_numbers IsForm Has items text (Contradiction c) (Contradiction d) form a b

-- the clauses of a parser leave one answer
pub one-answer-of : {V : Type 0} (Is : V → Type 0) (IsForm : List ℕ → Type 0) (Has : List ℕ → List ℕ → Type 0) (items : List Item) (text : List ℕ) (r s : Result V ParseError) → IsOneForm IsForm Has → IfOk r Is → IfOk s Is
    → ((v : V) → Is v → r ≡ Ok v) → ((v : V) → Is v → s ≡ Ok v) → IfErr r (IsFormError IsForm Has items text) → IfErr s (IsFormError IsForm Has items text) → r ≡ s
one-answer-of Is IsForm Has items text (Ok v) s form has other here there error errors = sym (there v has)
one-answer-of Is IsForm Has items text (Err e) (Ok w) form has other here there error errors = absurd (no-result e w (here w other))
one-answer-of Is IsForm Has items text (Err e) (Err f) form has other here there error errors = ap Err (error-one IsForm Has items text e f form error errors)

form-error : (items : List Item) (text : List ℕ) (e : ParseError) → IsRejection items text e → IsFormError (HasForm items) (λ numbers. HasNumbers items numbers) items text e
form-error items text (UnexpectedByte p) h = h
form-error items text (UnexpectedEnd p) h = h
form-error items text (OutOfRange why) h = h
form-error items text (Contradiction c) h = h

pub error-of : {V : Type 0} (P Q : ParseError → Type 0) (r : Result V ParseError) → ((e : ParseError) → P e → Q e) → IfErr r P → IfErr r Q
error-of P Q (Ok v) f h = tt
error-of P Q (Err e) f h = f e h

pub one-answer : {V : Type 0} (Is : V → Type 0) (items : List Item) (text : List ℕ) (r s : Result V ParseError) → IsTrue (are_apart items) → IfOk r Is → IfOk s Is
    → ((v : V) → Is v → r ≡ Ok v) → ((v : V) → Is v → s ≡ Ok v) → IfErr r (IsRejection items text) → IfErr s (IsRejection items text) → r ≡ s
one-answer Is items text r s apart has other here there error errors =
    let IsError = IsFormError (HasForm items) (λ numbers. HasNumbers items numbers) items text in
    one-answer-of Is (HasForm items) (λ numbers. HasNumbers items numbers) items text r s (record { one = λ ns ms bytes a b. one-numbers items ns ms bytes apart a b; formed = λ ns bytes h. has-form items ns bytes apart h }) has other here there
    (error-of (IsRejection items text) IsError r (form-error items text) error) (error-of (IsRejection items text) IsError s (form-error items text) errors)

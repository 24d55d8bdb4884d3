-- The reason why a format rejects a string: it has one.
use Rattle.std.proofs.Common.{◌≡◌, ◌∙◌, ap, subst, sym, refl, inl, inr, arith, ℕ, ◌+◌, ◌<◌, Bool, true, false, List, length, drop, take-append-drop, Result, Ok, Err}
use Rattle.std.specs.Prelude.{◌||◌, IfErr, IfOk, IsTrue, not, pos}
use Rattle.std.proofs.lemmas.Bool.{false≢true}
use Rattle.std.proofs.lemmas.Int.{ints}
use Rattle.cal_time.specs.ComponentError.{conditional}
use Rattle.cal_time.specs.Laws.{calendar_date-one, iso_week_date-one, ordinal_date-one}
use Rattle.cal_time.specs.declared.error.Component.{Component as Named}
use Rattle.cal_time.specs.declared.error.ComponentRange.{ComponentRange}
use Rattle.cal_format.specs.Form.{HasForm, HasNumbers, numbers_of}
use Rattle.cal_format.specs.Moment.{IsMoment}
use Rattle.cal_format.specs.Reading.{are_apart, shows_calendar_date, shows_iso_week_date, shows_ordinal_date, shows_timestamp}
use Rattle.cal_format.specs.Rejection.{IsContradiction, IsNumberRejection, IsRangeError, IsRejection}
use Rattle.cal_format.specs.Text.{text_of}
use Rattle.cal_format.specs.Values.{Holds, IsDateOf, IsMomentOf, first_contradiction, number_in, weekday_in, year_in}
use Rattle.cal_format.specs.declared.error.ParseError.{ParseError}
use Rattle.cal_format.specs.declared.error.ParseError.TheVariants.{UnexpectedByte, UnexpectedEnd, OutOfRange, Contradiction}
use Rattle.cal_format.specs.declared.item.Component.{Component}
use Rattle.cal_format.specs.declared.item.Component.TheVariants.{Day, IsoWeek, IsoYear, Month, Ordinal}
use Rattle.cal_format.specs.declared.item.Item.{Item}
use Rattle.cal_format.specs.declared.moment.Moment.{Moment}
use Rattle.cal_format.proofs.Determined.{own-moment}
use Rattle.cal_format.proofs.Outcomes.{no-value, same-value}
use Rattle.cal_format.proofs.Own.{has-own, own-contradiction, own-in, own-range}
use Rattle.cal_format.proofs.Shapes.{has-form}
use Rattle.cal_format.proofs.Uniques.{one-numbers}
use Rattle.cal_text.specs.Position.{IsPosition}
use Rattle.cal_text.specs.declared.any.DateOrMoment.{DateOrMoment}
use Rattle.caldate_answers.specs.FormatErrors.{IsComponentError, IsReadBy, IsReasonBy, format_reason_of}
use Rattle.caldate_answers.specs.Readers.{has_form}
use Rattle.caldate_lines.specs.declared.no_answer.NoAnswer.{NoAnswer}
use Rattle.caldate_lines.specs.declared.no_answer.NoAnswer.TheVariants as why

-- ---- one reason for all errors of a parser
abbrev pub IsOne : (ParseError → Type 0) → Type 0
IsOne R = (e f : ParseError) → R e → R f → format_reason_of e ≡ format_reason_of f

no_component : (c : ComponentRange) → why.NoForm ≡ why.Rejected c → ⊥
no_component c e = cc

reason_is : (R : ParseError → Type 0) (e : ParseError) (c : ComponentRange) → IsOne R → R e → IsComponentError R c → format_reason_of e ≡ why.Rejected c
reason_is R e c one is (inl h) = one e (OutOfRange c) is h
reason_is R e c one is (inr (name, h, same)) = one e (Contradiction name) is h ∙ ap (λ c. why.Rejected c) (sym same)

is_reason : (R : ParseError → Type 0) (e : ParseError) → IsOne R → R e → IsReasonBy (IsComponentError R) (format_reason_of e)
is_reason R (OutOfRange c) one is = inl (c, inl is, refl)
is_reason R (Contradiction name) one is = inl (conditional name, inr (name, is, refl), refl)
is_reason R (UnexpectedByte p) one is = inr (λ c h. no_component c (reason_is R (UnexpectedByte p) c one is h), refl)
is_reason R (UnexpectedEnd p) one is = inr (λ c h. no_component c (reason_is R (UnexpectedEnd p) c one is h), refl)

no_error : (R : ParseError → Type 0) (e : ParseError) → R e → ((c : ComponentRange) → ¬ IsComponentError R c) → format_reason_of e ≡ why.NoForm
no_error R (OutOfRange c) is none = absurd (none c (inl is))
no_error R (Contradiction name) is none = absurd (none (conditional name) (inr (name, is, refl)))
no_error R (UnexpectedByte p) is none = refl
no_error R (UnexpectedEnd p) is none = refl

same_reason : (R : ParseError → Type 0) (e : ParseError) (any : NoAnswer) → IsOne R → R e → IsReasonBy (IsComponentError R) any → format_reason_of e ≡ any
same_reason R e any one is (inl (c, h, same)) = reason_is R e c one is h ∙ sym same
same_reason R e any one is (inr (none, same)) = no_error R e is none ∙ sym same

-- ---- what reading gives
pub rejected : (IsText : DateOrMoment → Type 0) (R : ParseError → Type 0) (e : ParseError) (any : NoAnswer) → any ≡ format_reason_of e → ((found : DateOrMoment) → ¬ IsText found) → IsOne R → R e
    → IsReadBy IsText (IsComponentError R) (Err any)
rejected IsText R e any same none one is = record {
  every = λ found h. absurd (none found h);
  value = tt;
  every_error = λ other _ h. ap (λ w. Err w) (same ∙ same_reason R e other one is h);
  error = subst (IsReasonBy (IsComponentError R)) (sym same) (is_reason R e one is);
}

pub read : (IsText : DateOrMoment → Type 0) (IsError : ComponentRange → Type 0) (found : DateOrMoment) → IsText found → ((other : DateOrMoment) → IsText other → found ≡ other) → IsReadBy IsText IsError (Ok found)
read IsText IsError found is only = record {
  every = λ other h. ap (λ x. Ok x) (only other h);
  value = is;
  every_error = λ any none h. absurd (none found is);
  error = tt;
}

-- ---- the same with other properties
pub map_reason : (A B : ComponentRange → Type 0) (any : NoAnswer) → ((c : ComponentRange) → A c → B c) → ((c : ComponentRange) → B c → A c) → IsReasonBy A any → IsReasonBy B any
map_reason A B any f g (inl h) = inl (h.0, f h.0 h.1, h.2)
map_reason A B any f g (inr h) = inr (λ c b. h.0 c (g c b), h.1)

map_value : (A B : DateOrMoment → Type 0) (r : Result DateOrMoment NoAnswer) → ((x : DateOrMoment) → A x → B x) → IfOk r A → IfOk r B
map_value A B (Ok x) f h = f x h
map_value A B (Err any) f h = tt

map_error : (A B : NoAnswer → Type 0) (r : Result DateOrMoment NoAnswer) → ((any : NoAnswer) → A any → B any) → IfErr r A → IfErr r B
map_error A B (Ok x) f h = tt
map_error A B (Err any) f h = f any h

pub map_read : (A B : DateOrMoment → Type 0) (C D : ComponentRange → Type 0) (r : Result DateOrMoment NoAnswer) → ((x : DateOrMoment) → A x → B x) → ((x : DateOrMoment) → B x → A x)
    → ((c : ComponentRange) → C c → D c) → ((c : ComponentRange) → D c → C c) → IsReadBy A C r → IsReadBy B D r
map_read A B C D r f g j k h = record {
  every = λ x b. h.every x (g x b);
  value = map_value A B r f h.value;
  every_error = λ any none b. h.every_error any (λ x a. none x (f x a)) (map_reason D C any k j b);
  error = map_error (IsReasonBy C) (IsReasonBy D) r (λ any. map_reason C D any j k) h.error;
}

-- A reason for which a string has a form names a component.
pub has_error : (IsError : ComponentRange → Type 0) (any : NoAnswer) → IsReasonBy IsError any → has_form any ≡ true → (c : ComponentRange) × IsError c
has_error IsError any (inl h) e = (h.0, h.1)
has_error IsError any (inr h) e = absurd (false≢true (sym (ap has_form h.1) ∙ e))

-- ---- numbers have one moment
none_of : (a b c : Bool) → a ≡ false → b ≡ false → c ≡ false → IsTrue (not (a || (b || c)))
none_of true b c e f g = cc
none_of false true c e f g = cc
none_of false false true e f g = cc
none_of false false false e f g = refl

is_not : (b : Bool) → b ≡ false → IsTrue (not b)
is_not true e = cc
is_not false e = refl

one_date : (items : List Item) (at : Component → ℕ) (v m : Moment) → IsMoment v → IsMoment m → IsDateOf items at v.date → IsDateOf items at m.date → v.date ≡ m.date
one_date items at v m own other h k = by (shows_calendar_date items) (shows_ordinal_date items) (shows_iso_week_date items) refl refl refl
  where
    by : (a b c : Bool) → shows_calendar_date items ≡ a → shows_ordinal_date items ≡ b → shows_iso_week_date items ≡ c → v.date ≡ m.date
    by true b c e f g = calendar_date-one (pos (year_in items at)) (at Month) (at Day) v.date m.date own.date other.date (h.calendar e) (k.calendar e)
    by false true c e f g = ordinal_date-one (pos (year_in items at)) (at Ordinal) v.date m.date own.date other.date (h.ordinal (is_not _ e) f) (k.ordinal (is_not _ e) f)
    by false false true e f g = iso_week_date-one (pos (at IsoYear)) (at IsoWeek) (weekday_in items at) v.date m.date own.date other.date (h.week (is_not _ e) (is_not _ f) g) (k.week (is_not _ e) (is_not _ f) g)
    by false false false e f g = h.none (none_of _ _ _ e f g) ∙ sym (k.none (none_of _ _ _ e f g))

one_moment : (items : List Item) (at : Component → ℕ) (v m : Moment) → IsMomentOf items at v → IsMomentOf items at m → v ≡ m
one_moment items at v m h k = by (shows_timestamp items) refl
  where
    offset : v.offset ≡ m.offset
    offset = h.offset ∙ sym k.offset

    by : (b : Bool) → shows_timestamp items ≡ b → v ≡ m
    by true e =
        let seconds = (h.timestamp e).0 ∙ sym (k.timestamp e).0 in
        let nanosecond = (h.timestamp e).1 ∙ sym (k.timestamp e).1 in
        let own = h.in_range.time.below_day in
        let other = k.in_range.time.below_day in
        let d : v.date ≡ m.date = omega (arith, ints, offset, seconds, own, other) in
        let t : v.time ≡ m.time = omega (arith, ints, offset, seconds, nanosecond, own, other, d) in
        λ i. record { date = d i; time = t i; offset = offset i }
    by false e =
        let d = one_date items at v m h.in_range k.in_range (h.date (is_not _ e)) (k.date (is_not _ e)) in
        let t = h.time (is_not _ e) ∙ sym (k.time (is_not _ e)) in
        λ i. record { date = d i; time = t i; offset = offset i }

-- ---- numbers have one error
one_range_error : (items : List Item) (ns : List ℕ) (c d : ComponentRange) → IsRangeError items ns c → IsRangeError items ns d → c ≡ d
one_range_error items ns c d (inl h) (inl k) = same-value c d (sym h ∙ k)
one_range_error items ns c d (inl h) (inr k) = absurd (no-value c (sym k.0 ∙ h))
one_range_error items ns c d (inr h) (inl k) = absurd (no-value d (sym h.0 ∙ k))
one_range_error items ns c d (inr h) (inr k) = h.1 ∙ sym k.1

either_error : (items : List Item) (ns : List ℕ) (c : ComponentRange) (name : Named) → IsRangeError items ns c → IsContradiction items ns name → ⊥
either_error items ns c name (inl h) k = no-value c (sym k.0 ∙ h)
either_error items ns c name (inr h) k = h.2 k.1.0 k.1.1

one_contradiction : (items : List Item) (ns : List ℕ) (a b : Named) → IsContradiction items ns a → IsContradiction items ns b → a ≡ b
one_contradiction items ns a b h k =
    let same = one_moment items (number_in items ns) h.1.0 k.1.0 h.1.1 k.1.1 in
    same-value a b (sym h.1.2 ∙ ap (first_contradiction items ns) same ∙ k.1.2)

pub number_reason : (items : List Item) (ns : List ℕ) (e f : ParseError) → IsNumberRejection items ns e → IsNumberRejection items ns f → format_reason_of e ≡ format_reason_of f
number_reason items ns (UnexpectedByte p) f h k = absurd h
number_reason items ns (UnexpectedEnd p) f h k = absurd h
number_reason items ns (OutOfRange c) (UnexpectedByte q) h k = absurd k
number_reason items ns (OutOfRange c) (UnexpectedEnd q) h k = absurd k
number_reason items ns (OutOfRange c) (OutOfRange d) h k = ap (λ c. why.Rejected c) (one_range_error items ns c d h k)
number_reason items ns (OutOfRange c) (Contradiction b) h k = absurd (either_error items ns c b h k)
number_reason items ns (Contradiction a) (UnexpectedByte q) h k = absurd k
number_reason items ns (Contradiction a) (UnexpectedEnd q) h k = absurd k
number_reason items ns (Contradiction a) (OutOfRange d) h k = absurd (either_error items ns d a k h)
number_reason items ns (Contradiction a) (Contradiction b) h k = ap (λ n. why.Rejected (conditional n)) (one_contradiction items ns a b h k)

-- ---- the numbers of a moment that is held have none
own_range_error : (items : List Item) (v : Moment) (c : ComponentRange) → Holds items v → IsRangeError items (numbers_of items v) c → ⊥
own_range_error items v c holds (inl h) = no-value c (sym (own-range items v holds.in_range holds.numbers) ∙ h)
own_range_error items v c holds (inr h) = h.2 v (own-moment items v (number_in items (numbers_of items v)) holds (λ k. own-in items k v))

own_difference : (items : List Item) (v : Moment) (name : Named) → Holds items v → IsContradiction items (numbers_of items v) name → ⊥
own_difference items v name holds h =
    let own = own-moment items v (number_in items (numbers_of items v)) holds (λ k. own-in items k v) in
    let same = one_moment items (number_in items (numbers_of items v)) v h.1.0 own h.1.1 in
    no-value name (sym (own-contradiction items v holds.numbers) ∙ ap (first_contradiction items (numbers_of items v)) same ∙ h.1.2)

pub own_rejection : (items : List Item) (ns : List ℕ) (v : Moment) (e : ParseError) → Holds items v → ns ≡ numbers_of items v → IsNumberRejection items ns e → ⊥
own_rejection items ns v (UnexpectedByte p) holds same h = h
own_rejection items ns v (UnexpectedEnd p) holds same h = h
own_rejection items ns v (OutOfRange c) holds same h = own_range_error items v c holds (subst (λ l. IsRangeError items l c) same h)
own_rejection items ns v (Contradiction name) holds same h = own_difference items v name holds (subst (λ l. IsContradiction items l name) same h)

-- ---- a text has one error, if its numbers give it the form and are the only ones
abbrev pub IsRejectionBy : (List ℕ → Type 0) → (List ℕ → Type 0) → List Item → List ℕ → ParseError → Type 0
IsRejectionBy Form Has items text (UnexpectedByte p) = IsPosition Form text p × (p < length text)
IsRejectionBy Form Has items text (UnexpectedEnd p) = IsPosition Form text p × (p ≡ length text) × ¬ Form text
IsRejectionBy Form Has items text e = (ns : List ℕ) × Has ns × IsNumberRejection items ns e

pub record AreNumbersOf (Form Has : List ℕ → Type 0) (text : List ℕ) : Type 0 where
  pub form : (ns : List ℕ) → Has ns → Form text
  pub only : (ns ms : List ℕ) → Has ns → Has ms → ns ≡ ms

stops : (Form : List ℕ → Type 0) (text : List ℕ) (p : ℕ) → IsPosition Form text p → p < length text → Form text → ⊥
stops Form text p at low form =
    at.no_further low (record { more = drop (p + 1) text; text = subst Form (sym (take-append-drop (p + 1) text)) form })

same_numbered : (Has : List ℕ → Type 0) (items : List Item) (e f : ParseError) → ((ns ms : List ℕ) → Has ns → Has ms → ns ≡ ms) → (ns : List ℕ) × Has ns × IsNumberRejection items ns e → (ns : List ℕ) × Has ns × IsNumberRejection items ns f
    → format_reason_of e ≡ format_reason_of f
same_numbered Has items e f only h k =
    number_reason items k.0 e f (subst (λ l. IsNumberRejection items l e) (only h.0 k.0 h.1 k.1) h.2) k.2

one_by : (Form Has : List ℕ → Type 0) (items : List Item) (text : List ℕ) → AreNumbersOf Form Has text → IsOne (IsRejectionBy Form Has items text)
one_by Form Has items text numbers (UnexpectedByte p) (UnexpectedByte q) h k = refl
one_by Form Has items text numbers (UnexpectedByte p) (UnexpectedEnd q) h k = refl
one_by Form Has items text numbers (UnexpectedByte p) (OutOfRange d) h k = absurd (stops Form text p h.0 h.1 (numbers.form k.0 k.1))
one_by Form Has items text numbers (UnexpectedByte p) (Contradiction b) h k = absurd (stops Form text p h.0 h.1 (numbers.form k.0 k.1))
one_by Form Has items text numbers (UnexpectedEnd p) (UnexpectedByte q) h k = refl
one_by Form Has items text numbers (UnexpectedEnd p) (UnexpectedEnd q) h k = refl
one_by Form Has items text numbers (UnexpectedEnd p) (OutOfRange d) h k = absurd (h.2 (numbers.form k.0 k.1))
one_by Form Has items text numbers (UnexpectedEnd p) (Contradiction b) h k = absurd (h.2 (numbers.form k.0 k.1))
one_by Form Has items text numbers (OutOfRange c) (UnexpectedByte q) h k = absurd (stops Form text q k.0 k.1 (numbers.form h.0 h.1))
one_by Form Has items text numbers (OutOfRange c) (UnexpectedEnd q) h k = absurd (k.2 (numbers.form h.0 h.1))
one_by Form Has items text numbers (OutOfRange c) (OutOfRange d) h k = same_numbered Has items (OutOfRange c) (OutOfRange d) numbers.only h k
one_by Form Has items text numbers (OutOfRange c) (Contradiction b) h k = same_numbered Has items (OutOfRange c) (Contradiction b) numbers.only h k
one_by Form Has items text numbers (Contradiction a) (UnexpectedByte q) h k = absurd (stops Form text q k.0 k.1 (numbers.form h.0 h.1))
one_by Form Has items text numbers (Contradiction a) (UnexpectedEnd q) h k = absurd (k.2 (numbers.form h.0 h.1))
one_by Form Has items text numbers (Contradiction a) (OutOfRange d) h k = same_numbered Has items (Contradiction a) (OutOfRange d) numbers.only h k
one_by Form Has items text numbers (Contradiction a) (Contradiction b) h k = same_numbered Has items (Contradiction a) (Contradiction b) numbers.only h k

pub one_of : (R : ParseError → Type 0) (Form Has : List ℕ → Type 0) (items : List Item) (text : List ℕ) → ((e : ParseError) → R e → IsRejectionBy Form Has items text e) → AreNumbersOf Form Has text → IsOne R
one_of R Form Has items text by numbers e f h k = one_by Form Has items text numbers e f (by e h) (by f k)

-- ---- English names
rejection_by : (items : List Item) (text : List ℕ) (e : ParseError) → IsRejection items text e → IsRejectionBy (HasForm items) (λ ns. HasNumbers items ns text) items text e
rejection_by items text (UnexpectedByte p) h = h
rejection_by items text (UnexpectedEnd p) h = h
rejection_by items text (OutOfRange c) h = h
rejection_by items text (Contradiction name) h = h

pub one_rejection : (items : List Item) (text : List ℕ) → IsTrue (are_apart items) → IsOne (IsRejection items text)
one_rejection items text apart =
    one_of (IsRejection items text) (HasForm items) (λ ns. HasNumbers items ns text) items text (rejection_by items text) (record {
      form = λ ns h. has-form items ns text apart h;
      only = λ ns ms h k. one-numbers items ns ms text apart h k;
    })

abbrev IsNumbered : List Item → List ℕ → ParseError → Type 0
IsNumbered items text e = (ns : List ℕ) × HasNumbers items ns text × IsNumberRejection items ns e

held_numbered : (items : List Item) (v : Moment) (text : List ℕ) (e : ParseError) → IsTrue (are_apart items) → Holds items v → text ≡ text_of items v → IsNumbered items text e → ⊥
held_numbered items v text e apart holds is h =
    own_rejection items h.0 v e holds (one-numbers items h.0 (numbers_of items v) text apart h.1 (has-own items v text holds.in_range holds.numbers is)) h.2

pub unrejected : (items : List Item) (v : Moment) (text : List ℕ) (c : ComponentRange) → IsTrue (are_apart items) → Holds items v → text ≡ text_of items v → IsComponentError (IsRejection items text) c → ⊥
unrejected items v text c apart holds is (inl h) = held_numbered items v text (OutOfRange c) apart holds is h
unrejected items v text c apart holds is (inr (name, h, same)) = held_numbered items v text (Contradiction name) apart holds is h

-- A string with an error of a component has the form.
pub error_form : (items : List Item) (text : List ℕ) (c : ComponentRange) → IsTrue (are_apart items) → IsComponentError (IsRejection items text) c → HasForm items text
error_form items text c apart (inl h) = has-form items h.0 text apart h.1
error_form items text c apart (inr (name, h, same)) = has-form items h.0 text apart h.1

-- The strings of a format with the names of a language.
use Rattle.std.proofs.Common.{◌≡◌, ◌∙◌, ◌⊎◌, ℕ, ℤ, List, Ok, Err, ap, inl, inr, refl, subst, sym}
use Rattle.cal_format.specs.Moment.{moment_of_date, moment_of_date_time, moment_of_offset_date_time}
use Rattle.cal_format.specs.Values.{Holds}
use Rattle.cal_format.specs.declared.error.ParseError.{ParseError}
use Rattle.cal_format.specs.declared.error.ParseError.TheVariants.{UnexpectedByte, UnexpectedEnd, OutOfRange, Contradiction}
use Rattle.cal_format.specs.declared.item.Item.{Item}
use Rattle.cal_format.specs.declared.moment.Moment.{Moment}
use Rattle.cal_format.proofs.Moments.{date-holds, date_time-holds, moment-holds}
use Rattle.cal_format.proofs.Outcomes.{no-result, same-result}
use Rattle.cal_names.specs.declared.names.Names.{Names}
use Rattle.cal_named_format.specs.Named.{HasFormIn, text_in}
use Rattle.cal_named_format.specs.Rejection.{HasNumbersIn, IsRejectionIn}
use Rattle.cal_named_format.specs.Values.{ParsesIn}
use Rattle.cal_named_format.proofs.Named.{Reads, has-form-in, one-numbers-in, own-form, own-numbers}
use Rattle.cal_time.specs.declared.error.ComponentRange.{ComponentRange}
use Rattle.cal_text.specs.Position.{IsPosition}
use Rattle.cal_text.specs.declared.any.DateOrMoment.{DateOrMoment}
use Rattle.caldate_answers.specs.FormatErrors.{IsComponentError}
use Rattle.caldate_answers.specs.Languages.{Determines, IsTextInLanguage, kind_items}
use Rattle.caldate_answers.specs.declared.reading.in_language.LanguageKind.{LanguageKind}
use Rattle.caldate_answers.specs.declared.reading.in_language.LanguageKind.TheVariants.{Dates, Moments, DateTimes}
use Rattle.caldate_answers.proofs.Rejected.{IsOne, IsRejectionBy, one_of, own_rejection}

-- ---- the form

pub has_form_in : (offset : ℤ) (names : Names) (kind : LanguageKind) (text : List ℕ) (found : DateOrMoment) → Reads names (kind_items kind)
    → Determines kind → IsTextInLanguage offset names kind text found → HasFormIn names (kind_items kind) text
has_form_in offset names (Dates items) text found reads determines is =
    let holds = date-holds items is.0 determines is.1.0 is.1.1 in
    own-form names items (moment_of_date is.0) text reads holds.in_range holds.numbers is.2
has_form_in offset names (Moments items) text found reads determines is =
    let holds = moment-holds items is.0 determines is.1.0 is.1.1 is.1.2 is.1.3 is.1.4 in
    own-form names items (moment_of_offset_date_time is.0) text reads holds.in_range holds.numbers is.2
has_form_in offset names (DateTimes items) text found reads determines is =
    let holds = date_time-holds items is.0 determines is.1.0 is.1.1 is.1.2 in
    own-form names items (moment_of_date_time is.0) text reads holds.in_range holds.numbers is.2

-- ---- the value
pub only_value : {V : Type 0} (IsHeld : V → Type 0) (moment_of : V → Moment) (wrap : V → DateOrMoment) (t : Names) (items : List Item) (text : List ℕ) (v w : V) (found : DateOrMoment)
    → ParsesIn IsHeld moment_of t items text (Ok v) → IsHeld w → text ≡ text_in t items (moment_of w) → found ≡ wrap w → wrap v ≡ found
only_value IsHeld moment_of wrap t items text v w found parsed held text_is is = ap wrap (same-result (Ok v) v w refl (parsed.every w held text_is)) ∙ sym is

pub no_value_in : {V : Type 0} (IsHeld : V → Type 0) (moment_of : V → Moment) (t : Names) (items : List Item) (text : List ℕ) (e : ParseError) (w : V)
    → ParsesIn IsHeld moment_of t items text (Err e) → IsHeld w → text ≡ text_in t items (moment_of w) → ⊥
no_value_in IsHeld moment_of t items text e w parsed held text_is = no-result e w (parsed.every w held text_is)

-- ---- the error
rejection_by : (t : Names) (items : List Item) (text : List ℕ) (e : ParseError) → IsRejectionIn t items text e → IsRejectionBy (HasFormIn t items) (λ ns. HasNumbersIn t items ns text) items text e
rejection_by t items text (UnexpectedByte p) h = h
rejection_by t items text (UnexpectedEnd p) h = h
rejection_by t items text (OutOfRange c) h = h
rejection_by t items text (Contradiction name) h = h

numbered_form : (t : Names) (items : List Item) (ns text : List ℕ) → Reads t items → HasNumbersIn t items ns text → HasFormIn t items text
numbered_form t items ns text reads h = subst (HasFormIn t items) (sym h.text_is) (has-form-in t items ns reads h.fit)

pub one_rejection_in : (t : Names) (items : List Item) (text : List ℕ) → Reads t items → IsOne (IsRejectionIn t items text)
one_rejection_in t items text reads =
    one_of (IsRejectionIn t items text) (HasFormIn t items) (λ ns. HasNumbersIn t items ns text) items text (rejection_by t items text) (record {
      form = λ ns h. numbered_form t items ns text reads h;
      only = λ ns ms h k. one-numbers-in t items ns ms reads h.fit k.fit (sym h.text_is ∙ k.text_is);
    })

unrejected_in : (t : Names) (items : List Item) (v : Moment) (text : List ℕ) (c : ComponentRange) → Reads t items → Holds items v → text ≡ text_in t items v → IsComponentError (IsRejectionIn t items text) c → ⊥
unrejected_in t items v text c reads holds is (inl h) =
    own_rejection items h.0 v (OutOfRange c) holds (own-numbers t items v h.0 text reads holds.in_range holds.numbers h.1 is) h.2
unrejected_in t items v text c reads holds is (inr (name, h, same)) =
    own_rejection items h.0 v (Contradiction name) holds (own-numbers t items v h.0 text reads holds.in_range holds.numbers h.1 is) h.2

pub unrejected : (offset : ℤ) (names : Names) (kind : LanguageKind) (text : List ℕ) (found : DateOrMoment) (c : ComponentRange) → Reads names (kind_items kind) → Determines kind → IsTextInLanguage offset names kind text found
    → IsComponentError (IsRejectionIn names (kind_items kind) text) c → ⊥
unrejected offset names (Dates items) text found c reads determines is h =
    unrejected_in names items (moment_of_date is.0) text c reads (date-holds items is.0 determines is.1.0 is.1.1) is.2 h
unrejected offset names (Moments items) text found c reads determines is h =
    unrejected_in names items (moment_of_offset_date_time is.0) text c reads (moment-holds items is.0 determines is.1.0 is.1.1 is.1.2 is.1.3 is.1.4) is.2 h
unrejected offset names (DateTimes items) text found c reads determines is h =
    unrejected_in names items (moment_of_date_time is.0) text c reads (date_time-holds items is.0 determines is.1.0 is.1.1 is.1.2) is.2 h

-- A string with an error of a component has the form.
pub error_form_in : (t : Names) (items : List Item) (text : List ℕ) (c : ComponentRange) → Reads t items → IsComponentError (IsRejectionIn t items text) c → HasFormIn t items text
error_form_in t items text c reads (inl h) = numbered_form t items h.0 text reads h.1
error_form_in t items text c reads (inr (name, h, same)) = numbered_form t items h.0 text reads h.1

-- The position of an error at a byte or at the end.
pub stop_in : (t : Names) (items : List Item) (text : List ℕ) (e : ParseError) (p : ℕ) → (e ≡ UnexpectedByte p) ⊎ (e ≡ UnexpectedEnd p) → IsRejectionIn t items text e → IsPosition (HasFormIn t items) text p
stop_in t items text e p (inl is) h = (subst (IsRejectionIn t items text) is h).0
stop_in t items text e p (inr is) h = (subst (IsRejectionIn t items text) is h).0

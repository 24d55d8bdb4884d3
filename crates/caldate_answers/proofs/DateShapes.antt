-- The shapes of dates with their parts in another order, and what a scanner read of one.
use Rattle.std.proofs.Common.{◌≡◌, ◌↔◌, ◌⊎◌, ℕ, suc, length, inl, inr, List, [], ◌∷◌, ◌++◌, refl, ap, subst, ◌∙◌, lit≤}
use Rattle.cal_time.specs.DateText.{digits_at_least}
use Rattle.cal_time.specs.declared.error.ComponentRange.{ComponentRange}
use Rattle.cal_text.specs.Shape.{End, Byte, Digits, ParsesDigits, unmatched_bytes}
use Rattle.cal_text.proofs.DigitForms.{IsNumber, number, two}
use Rattle.cal_text.proofs.Forms.{IsForm, IsLed, IsThen, IsEither, always, led, both, either, renamed, retold, whole, put}
use Rattle.cal_text.proofs.Parts.{at_end}
use Rattle.cal_text.proofs.Positions.{IsShapeOf, Stopped, stopped}
use Rattle.cal_text.proofs.ReadDigits.{printed}
use Rattle.caldate_answers.specs.Readings.{HasDate, IsBasic, IsDateError, IsErrorIn, IsSeparator, IsYearLast, YearMonthDay, date_shape, year_last}
use Rattle.caldate_answers.specs.declared.reading.DateOrder.{DateOrder}
use Rattle.caldate_answers.specs.declared.reading.DateOrder.TheVariants.{Basic, DayFirst, MonthFirst}
use Rattle.caldate_answers.specs.declared.reading.Reading.TheVariants as reading

-- ---- eight digits
four : IsForm (Digits 4) (IsNumber 4) always
four = number 4 (lit≤ tt) (lit≤ tt)

basic_shape : IsShapeOf IsBasic (Digits 8 End)
basic_shape =
    whole
    (retold IsBasic (both four (both two two)) (λ v. (v.0, v.1.0, v.1.1))
    (λ bytes v h.
    let t = h.second in
    record { fit = (h.first.0, t.first.0, t.second.0); bytes_are = put h.bytes_are h.first.1 (put t.bytes_are t.first.1 t.second.1) })
    (λ bytes v h.
    let month = digits_at_least 2 v.1 in
    let day = digits_at_least 2 v.2 in (
      (v.0, (v.1, v.2)),
      record {
        front = digits_at_least 4 v.0;
        back = month ++ day;
        first = (h.fit.0, refl);
        second = record { front = month; back = day; first = (h.fit.1, refl); second = (h.fit.2, refl); bytes_are = refl };
        bytes_are = h.bytes_are;
      },
      refl,
    )))
    refl

-- ---- parts with separators
abbrev IsPast : ℕ → List ℕ → ℕ × ℕ → Type 0
IsPast s = IsThen (IsNumber 2) (IsLed s (IsNumber 4))

past : (s : ℕ) → IsForm (λ f. Digits 2 (Byte s (Digits 4 f))) (IsPast s) always
past s = both two (led s four)

abbrev Raw : Type 0
Raw = ℕ × ((ℕ × ℕ) ⊎ (ℕ × ℕ) ⊎ (ℕ × ℕ))

abbrev IsRaw : List ℕ → Raw → Type 0
IsRaw = IsThen (IsNumber 2) (IsEither (IsLed 45 (IsPast 45)) (IsEither (IsLed 46 (IsPast 46)) (IsLed 47 (IsPast 47))))

into : Raw → YearMonthDay
into (a, inl v) = (a, v.0, v.1)
into (a, inr (inl v)) = (a, v.0, v.1)
into (a, inr (inr v)) = (a, v.0, v.1)

abbrev IsLast : List ℕ → YearMonthDay → Type 0
IsLast bytes v = IsYearLast bytes v.0 v.1 v.2

separated : (s a b y : ℕ) (bytes front back : List ℕ) → IsSeparator s → IsNumber 2 front a → IsLed s (IsPast s) back (b, y) → bytes ≡ front ++ back → IsYearLast bytes a b y
separated s a b y bytes front back is first h e =
    let t = h.1 in
    record {
      fit = (first.0, t.first.0, t.second.1.0);
      separator = s;
      is_separator = is;
      bytes_are = put e first.1 (h.2 ∙ ap (λ r. s ∷ r) (put t.bytes_are t.first.1 (t.second.2 ∙ ap (λ r. s ∷ r) t.second.1.1)));
    }

there : (bytes : List ℕ) (v : Raw) → IsRaw bytes v → IsLast bytes (into v)
unfolding into
there bytes (a, inl v) h = separated 45 a v.0 v.1 bytes h.front h.back (inl refl) h.first h.second h.bytes_are
there bytes (a, inr (inl v)) h = separated 46 a v.0 v.1 bytes h.front h.back (inr (inl refl)) h.first h.second h.bytes_are
there bytes (a, inr (inr v)) h = separated 47 a v.0 v.1 bytes h.front h.back (inr (inr refl)) h.first h.second h.bytes_are

here : (bytes : List ℕ) (v : YearMonthDay) → IsLast bytes v → (u : Raw) × IsRaw bytes u × (into u ≡ v)
unfolding into
here bytes v h = at h.separator h.is_separator h.bytes_are
  where
    Found : Type 0
    Found = (u : Raw) × IsRaw bytes u × (into u ≡ v)

    rest : ℕ → List ℕ
    rest s = digits_at_least 2 v.1 ++ s ∷ digits_at_least 4 v.2

    is_rest : (s : ℕ) → IsPast s (rest s) (v.1, v.2)
    is_rest s =
        record { front = digits_at_least 2 v.1; back = s ∷ digits_at_least 4 v.2; first = (h.fit.1, refl); second = (digits_at_least 4 v.2, (h.fit.2, refl), refl); bytes_are = refl }

    at : (s : ℕ) → IsSeparator s → bytes ≡ digits_at_least 2 v.0 ++ s ∷ rest s → Found
    at s (inl e) all =
        let is = ap (λ x. digits_at_least 2 v.0 ++ x ∷ rest x) e in
        ((v.0, inl (v.1, v.2)), record { front = digits_at_least 2 v.0; back = 45 ∷ rest 45; first = (h.fit.0, refl); second = (rest 45, is_rest 45, refl); bytes_are = all ∙ is }, refl)
    at s (inr (inl e)) all =
        let is = ap (λ x. digits_at_least 2 v.0 ++ x ∷ rest x) e in
        ((v.0, inr (inl (v.1, v.2))), record { front = digits_at_least 2 v.0; back = 46 ∷ rest 46; first = (h.fit.0, refl); second = (rest 46, is_rest 46, refl); bytes_are = all ∙ is }, refl)
    at s (inr (inr e)) all =
        let is = ap (λ x. digits_at_least 2 v.0 ++ x ∷ rest x) e in
        ((v.0, inr (inr (v.1, v.2))), record { front = digits_at_least 2 v.0; back = 47 ∷ rest 47; first = (h.fit.0, refl); second = (rest 47, is_rest 47, refl); bytes_are = all ∙ is }, refl)

year_last_shape : IsShapeOf IsLast year_last
year_last_shape = whole (retold IsLast (both two (either 45 0 (led 45 (past 45)) (either 46 0 (led 46 (past 46)) (led 47 (past 47))))) into there here) refl

-- ---- the whole
pub dated_shape : (order : DateOrder) → IsShapeOf (HasDate order) (date_shape order)
dated_shape Basic = basic_shape
dated_shape DayFirst = renamed IsLast year_last (HasDate DayFirst) year_last_shape (λ v. (v.2, v.1, v.0)) (λ bytes v h. h) (λ bytes w h. ((w.2, w.1, w.0), h, refl))
dated_shape MonthFirst = renamed IsLast year_last (HasDate MonthFirst) year_last_shape (λ v. (v.2, v.0, v.1)) (λ bytes v h. h) (λ bytes w h. ((w.1, w.2, w.0), h, refl))

-- its errors are those of its numbers
pub date_error : (order : DateOrder) (text : List ℕ) (v : YearMonthDay) → HasDate order text v → (why : ComponentRange) (P : Type 0) → P ↔ IsDateError v why
    → P ↔ IsErrorIn (reading.Date order) text why
date_error order text v has why P is = (
  λ p. (v, has, is.0 p),
  λ h. is.1 (subst (λ w. IsDateError w why) ((dated_shape order).one text h.0 v h.1 has) h.2),
)

-- ---- what a scanner read
pub date_stop : (order : DateOrder) (text rest : List ℕ) → unmatched_bytes (date_shape order) text ≡ suc (length rest) → Stopped (HasDate order) text rest
date_stop order text rest scans = stopped (HasDate order) (date_shape order) (dated_shape order) text rest scans

pub put_basic : (old r s t : List ℕ) (y m d : ℕ) → ParsesDigits old r 4 y → ParsesDigits r s 2 m → ParsesDigits s t 2 d → t ≡ [] → IsBasic old (y, m, d)
put_basic old r s t y m d first second third end =
    let a = printed old r 4 y (lit≤ tt) (lit≤ tt) first in
    let b = printed r s 2 m (lit≤ tt) (lit≤ tt) second in
    let c = printed s t 2 d (lit≤ tt) (lit≤ tt) third in
    record {
      fit = (a.0, b.0, c.0);
      bytes_are = a.1 ∙ ap (λ rest. digits_at_least 4 y ++ rest) (b.1 ∙ ap (λ rest. digits_at_least 2 m ++ rest) (at_end s (digits_at_least 2 d) t c.1 end));
    }

pub put_year_last : (old r s t u v : List ℕ) (a b n y : ℕ) → ParsesDigits old r 2 a → IsSeparator n × (r ≡ n ∷ s) → ParsesDigits s t 2 b → t ≡ n ∷ u → ParsesDigits u v 4 y → v ≡ []
    → IsYearLast old a b y
put_year_last old r s t u v a b n y first separator second again third end =
    let x = printed old r 2 a (lit≤ tt) (lit≤ tt) first in
    let z = printed s t 2 b (lit≤ tt) (lit≤ tt) second in
    let w = printed u v 4 y (lit≤ tt) (lit≤ tt) third in
    record {
      fit = (x.0, z.0, w.0);
      separator = n;
      is_separator = separator.0;
      bytes_are = x.1 ∙ ap (λ rest. digits_at_least 2 a ++ rest) (separator.1 ∙ ap (λ rest. n ∷ rest)
          (z.1 ∙ ap (λ rest. digits_at_least 2 b ++ rest) (again ∙ ap (λ rest. n ∷ rest) (at_end u (digits_at_least 4 y) v w.1 end))));
    }

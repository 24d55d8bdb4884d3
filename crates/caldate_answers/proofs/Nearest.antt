-- The date or moment of a string without a year that is nearest to a day.
use Rattle.std.proofs.Common.{◌≡◌, ◌⊎◌, ◌∙◌, ap, inl, inr, refl, subst, sym, arith, ℕ, Bool, true, false, Option, Some, None, ◌<◌, ◌≤◌, List, [], ◌++◌, length-append, take, ℤ, pos, ◌+ℤ◌, ◌-ℤ◌, ◌≤ℤ◌, ◌<ℤ◌}
use Rattle.std.specs.Prelude.{codes, int_lt, length, nat_lt, unsigned_abs, IfSome, MatchOption, if◌then◌else◌}
use Rattle.std.specs.Ordering.{is_le, is_lt, nat_cmp}
use Rattle.std.proofs.lemmas.Bool.{cases_Bool, cases_lt}
use Rattle.std.proofs.lemmas.Bool.Decides.{nat_tests}
use Rattle.std.proofs.lemmas.Int.{ints}
use Rattle.std.proofs.lemmas.List.{take_all}
use Rattle.std.proofs.lemmas.Map.Keys.{le_from_is_le}
use Rattle.std.proofs.lemmas.Option.{same_Some}
use Rattle.cal_time.specs.Date.{year_at}
use Rattle.cal_time.specs.DateText.{year_text}
use Rattle.cal_time.specs.Laws.{digits_at_least-four}
use Rattle.cal_time.specs.Order.{ordinal_date_at}
use Rattle.cal_date.proofs.Order.{in_order}
use Rattle.cal_date.proofs.Rising.{Rises-ordinal_date}
use Rattle.cal_text.specs.declared.any.DateOrMoment.{DateOrMoment}
use Rattle.caldate_answers.specs.Found.{day_of}
use Rattle.caldate_answers.specs.Nearness.{IsFirstAfter, IsLastUntil, IsNearestTo, days_apart, nearer_to}
use Rattle.caldate_answers.specs.Readers.{IsFormatText, IsTextInYears, IsTextNear, IsTextOfYear, with_year}
use Rattle.caldate_answers.specs.declared.reading.yearless.AssumedYear.{AssumedYear}
use Rattle.caldate_answers.specs.declared.reading.yearless.AssumedYear.TheVariants.{Is, Near}
use Rattle.caldate_answers.specs.declared.reading.value_format.ValueFormat.{ValueFormat}

-- ---- years
-- One integer is less than another, or it isn't.
compared : (a b : ℤ) → (a <ℤ b) ⊎ (b ≤ℤ a)
compared a b = elim (cases_Bool (int_lt a b)) as (λ _. (a <ℤ b) ⊎ (b ≤ℤ a)) [ inl e ↦ inl (grind (arith, ints)) | inr e ↦ inr (grind (arith, ints)) ]

-- The days of an earlier year are earlier.
earlier_year : (m n : ℕ) → year_at m <ℤ year_at n → m < n
earlier_year m n h = (in_order ordinal_date_at Rises-ordinal_date m n).1 (inl h)

year_until : (m n : ℕ) → m ≤ n → year_at m ≤ℤ year_at n
year_until m n h =
    elim (compared (year_at n) (year_at m)) as (λ _. year_at m ≤ℤ year_at n) [
      | inl less ↦ absurd (let k : n < m = earlier_year n m less in omega arith)
      | inr most ↦ most
    ]

-- ---- the texts of some years
abbrev Texts : ℤ → ValueFormat → List ℕ → ℤ → ℤ → DateOrMoment → Type 0
Texts o f t a b x = IsTextInYears o f t a b x

pub within : (o : ℤ) (f : ValueFormat) (t : List ℕ) (a b c d : ℤ) (x : DateOrMoment) → Texts o f t a b x → c ≤ℤ year_at (day_of x) → year_at (day_of x) ≤ℤ d → Texts o f t c d x
within o f t a b c d x h low high = record { from = low; to = high; four_digits = h.four_digits; text_is = h.text_is }

-- One text of a year, and no other.
pub record IsOnly (Has : DateOrMoment → Type 0) (x : DateOrMoment) : Type 0 where
  pub has : Has x
  pub only : (other : DateOrMoment) → Has other → other ≡ x

-- The year of a string that has it has four digits.
pub few_digits : (y : ℤ) → pos 0 ≤ℤ y → y ≤ℤ pos 9_999 → length (year_text y) ≡ 4
few_digits y low high =
    let not_low : int_lt y (pos 0) ≡ false = grind (arith, ints) in
    let not_high : int_lt (pos 9_999) y ≡ false = grind (arith, ints) in
    let four = digits_at_least-four (unsigned_abs y) (omega (arith, ints)) in
    rw (not_low, not_high, four) refl

pub is_in_year : (o : ℤ) (f : ValueFormat) (t full : List ℕ) (y : ℤ) (x : DateOrMoment) → full ≡ with_year (year_text y) t → year_at (day_of x) ≡ y → pos 0 ≤ℤ y → y ≤ℤ pos 9_999
    → IsFormatText o f full x → Texts o f t y y x
is_in_year o f t full y x e year low high h = record {
  from = omega (arith, ints, year);
  to = omega (arith, ints, year);
  four_digits = (omega (arith, ints, year, low), omega (arith, ints, year, high));
  text_is = subst (λ l. IsFormatText o f l x) (e ∙ ap (λ z. with_year (year_text z) t) (sym year)) h;
}

pub one_year : (o : ℤ) (f : ValueFormat) (t : List ℕ) (y : ℤ) (x : DateOrMoment) → Texts o f t y y x → year_at (day_of x) ≡ y
one_year o f t y x h = omega (arith, ints, h.from, h.to)

pub text_in_year : (o : ℤ) (f : ValueFormat) (t full : List ℕ) (y : ℤ) (x : DateOrMoment) → full ≡ with_year (year_text y) t → Texts o f t y y x → IsFormatText o f full x
text_in_year o f t full y x e h = subst (λ l. IsFormatText o f l x) (ap (λ z. with_year (year_text z) t) (one_year o f t y x h) ∙ sym e) h.text_is

-- The bytes that are read in a year.
pub full_is : (t full joined digits new old : List ℕ) (y z : ℤ) → full ≡ joined → joined ≡ with_year digits t → digits ≡ new → new ≡ old ++ year_text z → old ≡ [] → z ≡ y
    → full ≡ with_year (year_text y) t
full_is t full joined digits new old y z a b c d e g = a ∙ b ∙ ap (λ l. with_year l t) (c ∙ d ∙ ap (λ l. l ++ year_text z) e ∙ ap year_text g)

-- No year makes a string one of a kind if the string and a slash leave the form of that kind.
pub none_lacks : (P : List ℕ → Type 0) (t bytes : List ℕ) (bound : ℕ) → bytes ≡ t ++ codes "/" → ((n : ℕ) (more : List ℕ) → n ≤ length bytes → P (take n bytes ++ more) → n ≤ bound)
    → nat_lt (length t) bound ≡ false → (year : List ℕ) → ¬ P (with_year year t)
none_lacks P t bytes bound e front past year is =
    let fits = front (length bytes) year (omega arith) (subst P (ap (λ l. l ++ year) (sym (take_all (length bytes) bytes (omega arith) ∙ e))) is) in
    let low : bound ≤ length t = grind (arith, nat_tests) in
    omega (arith, fits, low, ap length e, length-append t (codes "/"))

-- The value of a result is the only one with a property.
abbrev pub OnlyIn : (DateOrMoment → Type 0) → Option DateOrMoment → Type 0
OnlyIn Has r = MatchOption r ((x : DateOrMoment) → ¬ Has x) (λ x. Has x × ((other : DateOrMoment) → Has other → other ≡ x))

-- ---- the last one until the day
pub last_here : (o : ℤ) (f : ValueFormat) (t : List ℕ) (day : ℕ) (a y : ℤ) (x : DateOrMoment) → a ≤ℤ y → IsOnly (Texts o f t y y) x → day_of x ≤ day
    → IsLastUntil day (Texts o f t a y) x
last_here o f t day a y x low h until = record {
  has = within o f t y y a y x h.has (omega (arith, ints, h.has.from)) h.has.to;
  until = until;
  last = λ other is less.
      elim (compared (year_at (day_of other)) y) as (λ _. day_of other ≤ day_of x) [
        | inl before ↦ (let k : day_of other < day_of x = earlier_year (day_of other) (day_of x) (omega (arith, ints, h.has.from)) in omega arith)
        | inr same ↦ (let e = ap day_of (h.only other (within o f t a y y y other is same is.to)) in omega (arith, e))
      ];
  only = λ other is e.
      let years = ap year_at e in
      h.only other (within o f t a y y y other is (omega (arith, ints, years, h.has.from)) (omega (arith, ints, years, h.has.to)));
}

last_before : (o : ℤ) (f : ValueFormat) (t : List ℕ) (day : ℕ) (a b y z : ℤ) (x : DateOrMoment) → a ≡ b → (z +ℤ pos 1) ≡ y
    → ((other : DateOrMoment) → Texts o f t y y other → day < day_of other) → IsLastUntil day (Texts o f t b z) x → IsLastUntil day (Texts o f t a y) x
last_before o f t day a b y z x low next none h = record {
  has = within o f t b z a y x h.has (omega (arith, ints, h.has.from)) (omega (arith, ints, h.has.to));
  until = h.until;
  last = λ other is less.
      elim (compared (year_at (day_of other)) y) as (λ _. day_of other ≤ day_of x) [
        | inl before ↦ h.last other (within o f t a y b z other is (omega (arith, ints, is.from)) (omega (arith, ints))) less
        | inr same ↦ absurd (let late = none other (within o f t a y y y other is same is.to) in omega (arith, late))
      ];
  only = λ other is e.
      let years = ap year_at e in
      h.only other (within o f t a y b z other is (omega (arith, ints, years, h.has.from)) (omega (arith, ints, years, h.has.to))) e;
}

none_before : (o : ℤ) (f : ValueFormat) (t : List ℕ) (day : ℕ) (a b y z : ℤ) (other : DateOrMoment) → a ≡ b → (z +ℤ pos 1) ≡ y
    → ((other : DateOrMoment) → Texts o f t y y other → day < day_of other) → ((other : DateOrMoment) → Texts o f t b z other → day < day_of other)
    → Texts o f t a y other → day < day_of other
none_before o f t day a b y z other low next none rest is =
    elim (compared (year_at (day_of other)) y) as (λ _. day < day_of other) [
      | inl before ↦ rest other (within o f t a y b z other is (omega (arith, ints, is.from)) (omega (arith, ints)))
      | inr same ↦ none other (within o f t a y y y other is same is.to)
    ]

-- Those of the years before.
pub last_step : (o : ℤ) (f : ValueFormat) (t : List ℕ) (day : ℕ) (a b y z : ℤ) (r : Option DateOrMoment) → a ≡ b → (z +ℤ pos 1) ≡ y
    → ((other : DateOrMoment) → Texts o f t y y other → day < day_of other)
    → MatchOption r ((x : DateOrMoment) → Texts o f t b z x → day < day_of x) (IsLastUntil day (Texts o f t b z))
    → MatchOption r ((x : DateOrMoment) → Texts o f t a y x → day < day_of x) (IsLastUntil day (Texts o f t a y))
last_step o f t day a b y z None low next none rest = λ x is. none_before o f t day a b y z x low next none rest is
last_step o f t day a b y z (Some x) low next none rest = last_before o f t day a b y z x low next none rest

-- ---- the first one after the day
pub first_here : (o : ℤ) (f : ValueFormat) (t : List ℕ) (day : ℕ) (y a : ℤ) (x : DateOrMoment) → y ≤ℤ a → IsOnly (Texts o f t y y) x → day < day_of x
    → IsFirstAfter day (Texts o f t y a) x
first_here o f t day y a x high h after = record {
  has = within o f t y y y a x h.has h.has.from (omega (arith, ints, h.has.to));
  after = after;
  first = λ other is more.
      elim (compared y (year_at (day_of other))) as (λ _. day_of x ≤ day_of other) [
        | inl later ↦ (let k : day_of x < day_of other = earlier_year (day_of x) (day_of other) (omega (arith, ints, h.has.to)) in omega arith)
        | inr same ↦ (let e = ap day_of (h.only other (within o f t y a y y other is is.from same)) in omega (arith, e))
      ];
  only = λ other is e.
      let years = ap year_at e in
      h.only other (within o f t y a y y other is (omega (arith, ints, years, h.has.from)) (omega (arith, ints, years, h.has.to)));
}

first_later : (o : ℤ) (f : ValueFormat) (t : List ℕ) (day : ℕ) (y z a b : ℤ) (x : DateOrMoment) → a ≡ b → (y +ℤ pos 1) ≡ z
    → ((other : DateOrMoment) → Texts o f t y y other → day_of other ≤ day) → IsFirstAfter day (Texts o f t z b) x → IsFirstAfter day (Texts o f t y a) x
first_later o f t day y z a b x high next none h = record {
  has = within o f t z b y a x h.has (omega (arith, ints, h.has.from)) (omega (arith, ints, h.has.to));
  after = h.after;
  first = λ other is more.
      elim (compared y (year_at (day_of other))) as (λ _. day_of x ≤ day_of other) [
        | inl later ↦ h.first other (within o f t y a z b other is (omega (arith, ints)) (omega (arith, ints, is.to))) more
        | inr same ↦ absurd (let soon = none other (within o f t y a y y other is is.from same) in omega (arith, soon))
      ];
  only = λ other is e.
      let years = ap year_at e in
      h.only other (within o f t y a z b other is (omega (arith, ints, years, h.has.from)) (omega (arith, ints, years, h.has.to))) e;
}

none_later : (o : ℤ) (f : ValueFormat) (t : List ℕ) (day : ℕ) (y z a b : ℤ) (other : DateOrMoment) → a ≡ b → (y +ℤ pos 1) ≡ z
    → ((other : DateOrMoment) → Texts o f t y y other → day_of other ≤ day) → ((other : DateOrMoment) → Texts o f t z b other → day_of other ≤ day)
    → Texts o f t y a other → day_of other ≤ day
none_later o f t day y z a b other high next none rest is =
    elim (compared y (year_at (day_of other))) as (λ _. day_of other ≤ day) [
      | inl later ↦ rest other (within o f t y a z b other is (omega (arith, ints)) (omega (arith, ints, is.to)))
      | inr same ↦ none other (within o f t y a y y other is is.from same)
    ]

-- Those of the years after.
pub first_step : (o : ℤ) (f : ValueFormat) (t : List ℕ) (day : ℕ) (y z a b : ℤ) (r : Option DateOrMoment) → a ≡ b → (y +ℤ pos 1) ≡ z
    → ((other : DateOrMoment) → Texts o f t y y other → day_of other ≤ day)
    → MatchOption r ((x : DateOrMoment) → Texts o f t z b x → day_of x ≤ day) (IsFirstAfter day (Texts o f t z b))
    → MatchOption r ((x : DateOrMoment) → Texts o f t y a x → day_of x ≤ day) (IsFirstAfter day (Texts o f t y a))
first_step o f t day y z a b None high next none rest = λ x is. none_later o f t day y z a b x high next none rest is
first_step o f t day y z a b (Some x) high next none rest = first_later o f t day y z a b x high next none rest

-- ---- the nearer of the two
is_last : (day : ℕ) (Has Until : DateOrMoment → Type 0) (b : DateOrMoment) → Has b → IsLastUntil day Until b → ((x : DateOrMoment) → Has x → day_of x ≤ day → Until x)
    → ((x : DateOrMoment) → Has x → day < day_of x → days_apart day (day_of b) ≤ days_apart day (day_of x)) → IsNearestTo day Has b
is_last day Has Until b has h until far = record {
  has = has;
  nearest = λ other is.
      elim (cases_lt day (day_of other)) as (λ _. days_apart day (day_of b) ≤ days_apart day (day_of other)) [
        | inl after ↦ (let apart = far other is after in omega (arith, apart, h.until))
        | inr before ↦ (let less = h.last other (until other is before) before in omega (arith, less, h.until))
      ];
  earlier = λ other is same.
      elim (cases_lt day (day_of other)) as (λ _. day_of b ≤ day_of other) [
        | inl after ↦ omega (arith, h.until)
        | inr before ↦ (let less = h.last other (until other is before) before in omega (arith, less, same, h.until))
      ];
}

is_first : (day : ℕ) (Has After : DateOrMoment → Type 0) (a : DateOrMoment) → Has a → IsFirstAfter day After a → ((x : DateOrMoment) → Has x → day < day_of x → After x)
    → ((x : DateOrMoment) → Has x → day_of x ≤ day → days_apart day (day_of a) < days_apart day (day_of x)) → IsNearestTo day Has a
is_first day Has After a has h after far = record {
  has = has;
  nearest = λ other is.
      elim (cases_lt day (day_of other)) as (λ _. days_apart day (day_of a) ≤ days_apart day (day_of other)) [
        | inl later ↦ (let more = h.first other (after other is later) later in omega (arith, more, h.after))
        | inr before ↦ (let apart = far other is before in omega (arith, apart, h.after))
      ];
  earlier = λ other is same.
      elim (cases_lt day (day_of other)) as (λ _. day_of a ≤ day_of other) [
        | inl later ↦ h.first other (after other is later) later
        | inr before ↦ absurd (let apart = far other is before in omega (arith, apart, same, h.after))
      ];
}

one_day : (day : ℕ) (Has : DateOrMoment → Type 0) (x y : DateOrMoment) → IsNearestTo day Has x → IsNearestTo day Has y → day_of x ≡ day_of y
one_day day Has x y h k =
    let same : days_apart day (day_of x) ≡ days_apart day (day_of y) = omega (arith, h.nearest y k.has, k.nearest x h.has) in
    omega (arith, h.earlier y k.has (sym same), k.earlier x h.has same)

-- ---- within 50 years of the day
abbrev Until : ℤ → ValueFormat → List ℕ → ℕ → DateOrMoment → Type 0
Until o f t day x = IsTextInYears o f t (year_at day -ℤ pos 50) (year_at day) x

abbrev After : ℤ → ValueFormat → List ℕ → ℕ → DateOrMoment → Type 0
After o f t day x = IsTextInYears o f t (year_at day) (year_at day +ℤ pos 50) x

from_until : (o : ℤ) (f : ValueFormat) (t : List ℕ) (day : ℕ) (x : DateOrMoment) → Until o f t day x → IsTextNear o f t day x
from_until o f t day x h = within o f t (year_at day -ℤ pos 50) (year_at day) (year_at day -ℤ pos 50) (year_at day +ℤ pos 50) x h h.from (omega (arith, ints, h.to))

from_after : (o : ℤ) (f : ValueFormat) (t : List ℕ) (day : ℕ) (x : DateOrMoment) → After o f t day x → IsTextNear o f t day x
from_after o f t day x h = within o f t (year_at day) (year_at day +ℤ pos 50) (year_at day -ℤ pos 50) (year_at day +ℤ pos 50) x h (omega (arith, ints, h.from)) h.to

to_until : (o : ℤ) (f : ValueFormat) (t : List ℕ) (day : ℕ) (x : DateOrMoment) → IsTextNear o f t day x → day_of x ≤ day → Until o f t day x
to_until o f t day x h less = within o f t (year_at day -ℤ pos 50) (year_at day +ℤ pos 50) (year_at day -ℤ pos 50) (year_at day) x h h.from (year_until (day_of x) day less)

to_after : (o : ℤ) (f : ValueFormat) (t : List ℕ) (day : ℕ) (x : DateOrMoment) → IsTextNear o f t day x → day < day_of x → After o f t day x
to_after o f t day x h more =
    within o f t (year_at day -ℤ pos 50) (year_at day +ℤ pos 50) (year_at day) (year_at day +ℤ pos 50) x h (year_until day (day_of x) (omega (arith, more))) h.to

last_nearer : (o : ℤ) (f : ValueFormat) (t : List ℕ) (day : ℕ) (b a : DateOrMoment) → IsLastUntil day (Until o f t day) b → IsFirstAfter day (After o f t day) a
    → nat_lt (days_apart day (day_of a)) (days_apart day (day_of b)) ≡ false → IsNearestTo day (IsTextNear o f t day) b
last_nearer o f t day b a h k e =
    let near : days_apart day (day_of b) ≤ days_apart day (day_of a) = grind (arith, nat_tests) in
    is_last day (IsTextNear o f t day) (Until o f t day) b (from_until o f t day b h.has) h (to_until o f t day)
    (λ x is more. let later = k.first x (to_after o f t day x is more) more in omega (arith, later, near, h.until, k.after))

first_nearer : (o : ℤ) (f : ValueFormat) (t : List ℕ) (day : ℕ) (b a : DateOrMoment) → IsLastUntil day (Until o f t day) b → IsFirstAfter day (After o f t day) a
    → nat_lt (days_apart day (day_of a)) (days_apart day (day_of b)) ≡ true → IsNearestTo day (IsTextNear o f t day) a
first_nearer o f t day b a h k e =
    let near : days_apart day (day_of a) < days_apart day (day_of b) = grind (arith, nat_tests) in
    is_first day (IsTextNear o f t day) (After o f t day) a (from_after o f t day a k.has) k (to_after o f t day)
    (λ x is less. let before = h.last x (to_until o f t day x is less) less in omega (arith, before, near, h.until, k.after))

last_alone : (o : ℤ) (f : ValueFormat) (t : List ℕ) (day : ℕ) (b : DateOrMoment) → IsLastUntil day (Until o f t day) b
    → ((x : DateOrMoment) → After o f t day x → day_of x ≤ day) → IsNearestTo day (IsTextNear o f t day) b
last_alone o f t day b h none =
    is_last day (IsTextNear o f t day) (Until o f t day) b (from_until o f t day b h.has) h (to_until o f t day)
    (λ x is more. absurd (let less = none x (to_after o f t day x is more) in omega (arith, less, more)))

first_alone : (o : ℤ) (f : ValueFormat) (t : List ℕ) (day : ℕ) (a : DateOrMoment) → ((x : DateOrMoment) → Until o f t day x → day < day_of x)
    → IsFirstAfter day (After o f t day) a → IsNearestTo day (IsTextNear o f t day) a
first_alone o f t day a none k =
    is_first day (IsTextNear o f t day) (After o f t day) a (from_after o f t day a k.has) k (to_after o f t day)
    (λ x is less. absurd (let more = none x (to_until o f t day x is less) in omega (arith, less, more)))

none_near : (o : ℤ) (f : ValueFormat) (t : List ℕ) (day : ℕ) (x : DateOrMoment) → ((x : DateOrMoment) → Until o f t day x → day < day_of x)
    → ((x : DateOrMoment) → After o f t day x → day_of x ≤ day) → ¬ IsTextNear o f t day x
none_near o f t day x before after is =
    elim (cases_lt day (day_of x)) as (λ _. ⊥) [
      | inl more ↦ (let less = after x (to_after o f t day x is more) in omega (arith, less, more))
      | inr less ↦ (let more = before x (to_until o f t day x is less) in omega (arith, less, more))
    ]

-- It is the nearest, and there is no other.
abbrev IsOnlyNearest : ℤ → ValueFormat → List ℕ → ℕ → DateOrMoment → Type 0
IsOnlyNearest o f t day x = IsNearestTo day (IsTextNear o f t day) x × ((other : DateOrMoment) → IsNearestTo day (IsTextNear o f t day) other → other ≡ x)

only_last : (o : ℤ) (f : ValueFormat) (t : List ℕ) (day : ℕ) (b : DateOrMoment) → IsLastUntil day (Until o f t day) b → IsNearestTo day (IsTextNear o f t day) b
    → IsOnlyNearest o f t day b
only_last o f t day b h near = (
  near,
  λ x is.
      let same = one_day day (IsTextNear o f t day) x b is near in
      h.only x (to_until o f t day x is.has (omega (arith, same, h.until))) same,
)

only_first : (o : ℤ) (f : ValueFormat) (t : List ℕ) (day : ℕ) (a : DateOrMoment) → IsFirstAfter day (After o f t day) a → IsNearestTo day (IsTextNear o f t day) a
    → IsOnlyNearest o f t day a
only_first o f t day a k near = (
  near,
  λ x is.
      let same = one_day day (IsTextNear o f t day) x a is near in
      k.only x (to_after o f t day x is.has (omega (arith, same, k.after))) same,
)

nearer_test : (o : ℤ) (f : ValueFormat) (t : List ℕ) (day : ℕ) (b a : DateOrMoment) (test : Bool) → nat_lt (days_apart day (day_of a)) (days_apart day (day_of b)) ≡ test
    → IsLastUntil day (Until o f t day) b → IsFirstAfter day (After o f t day) a → OnlyIn (IsNearestTo day (IsTextNear o f t day)) (if test then Some a else Some b)
nearer_test o f t day b a true e h k = only_first o f t day a k (first_nearer o f t day b a h k e)
nearer_test o f t day b a false e h k = only_last o f t day b h (last_nearer o f t day b a h k e)

-- The nearer of the two is the nearest of all.
pub nearest : (o : ℤ) (f : ValueFormat) (t : List ℕ) (day : ℕ) (last first : Option DateOrMoment)
    → MatchOption last ((x : DateOrMoment) → Until o f t day x → day < day_of x) (IsLastUntil day (Until o f t day))
    → MatchOption first ((x : DateOrMoment) → After o f t day x → day_of x ≤ day) (IsFirstAfter day (After o f t day))
    → OnlyIn (IsNearestTo day (IsTextNear o f t day)) (nearer_to day last first)
nearest o f t day (Some b) (Some a) h k = nearer_test o f t day b a _ refl h k
nearest o f t day (Some b) None h k = only_last o f t day b h (last_alone o f t day b h k)
nearest o f t day None (Some a) h k = only_first o f t day a k (first_alone o f t day a h k)
nearest o f t day None None h k = λ x is. none_near o f t day x h k is.has

pub nearest_by : (o : ℤ) (f : ValueFormat) (t : List ℕ) (day : ℕ) (y z : ℤ) (last first : Option DateOrMoment) → y ≡ year_at day → z ≡ year_at day
    → MatchOption last ((x : DateOrMoment) → Texts o f t (y -ℤ pos 50) y x → day < day_of x) (IsLastUntil day (Texts o f t (y -ℤ pos 50) y))
    → MatchOption first ((x : DateOrMoment) → Texts o f t z (z +ℤ pos 50) x → day_of x ≤ day) (IsFirstAfter day (Texts o f t z (z +ℤ pos 50)))
    → OnlyIn (IsNearestTo day (IsTextNear o f t day)) (nearer_to day last first)
nearest_by o f t day y z last first e g h k =
    nearest o f t day last first
    (subst (λ y. MatchOption last ((x : DateOrMoment) → Texts o f t (y -ℤ pos 50) y x → day < day_of x) (IsLastUntil day (Texts o f t (y -ℤ pos 50) y))) e h)
    (subst (λ z. MatchOption first ((x : DateOrMoment) → Texts o f t z (z +ℤ pos 50) x → day_of x ≤ day) (IsFirstAfter day (Texts o f t z (z +ℤ pos 50)))) g k)

-- ---- results
-- A value is the only one with a property.
pub only_here : (Has : DateOrMoment → Type 0) (x : DateOrMoment) → Has x × ((other : DateOrMoment) → Has other → other ≡ x) → IsOnly Has x
only_here Has x h = record { has = h.0; only = h.1 }

-- Nothing in a result, or a value past the day.
pub none_until : (Has : DateOrMoment → Type 0) (r : Option DateOrMoment) (day : ℕ) → OnlyIn Has r → ((x : DateOrMoment) → r ≡ Some x → day < day_of x)
    → (other : DateOrMoment) → Has other → day < day_of other
none_until Has None day h past = λ other is. absurd (h other is)
none_until Has (Some x) day h past = λ other is. let e = ap day_of (h.1 other is) in omega (arith, e, past x refl)

pub none_after : (Has : DateOrMoment → Type 0) (r : Option DateOrMoment) (day : ℕ) → OnlyIn Has r → ((x : DateOrMoment) → r ≡ Some x → day_of x ≤ day)
    → (other : DateOrMoment) → Has other → day_of other ≤ day
none_after Has None day h past = λ other is. absurd (h other is)
none_after Has (Some x) day h past = λ other is. let e = ap day_of (h.1 other is) in omega (arith, e, past x refl)

pub are_same : (r : Option DateOrMoment) (x y : DateOrMoment) → r ≡ Some x → r ≡ Some y → x ≡ y
are_same r x y e f = same_Some x y (sym e ∙ f)

-- The only one with a property, as two clauses.
pub every_of : (Has : DateOrMoment → Type 0) (r : Option DateOrMoment) (x : DateOrMoment) → OnlyIn Has r → Has x → r ≡ Some x
every_of Has None x h is = absurd (h x is)
every_of Has (Some y) x h is = ap Some (sym (h.1 x is))

pub some_of : (Has : DateOrMoment → Type 0) (r : Option DateOrMoment) → OnlyIn Has r → IfSome r Has
some_of Has None h = tt
some_of Has (Some y) h = h.0

-- ---- tests
pub at_most : (a b : ℕ) → true ≡ is_le (nat_cmp a b) → a ≤ b
at_most a b e = le_from_is_le a b (sym e)

pub above : (a b : ℕ) → false ≡ is_le (nat_cmp a b) → b < a
above a b e = grind (arith, nat_tests)

pub below : (a b : ℕ) → true ≡ is_lt (nat_cmp a b) → a < b
below a b e = grind (arith, nat_tests)

pub not_below : (a b : ℕ) → false ≡ is_lt (nat_cmp a b) → b ≤ a
not_below a b e = grind (arith, nat_tests)

-- A year after the string makes it one in the format.
pub with_some_year : (year : AssumedYear) (o : ℤ) (f : ValueFormat) (t : List ℕ) (x : DateOrMoment) → IsTextOfYear year o f t x
    → IsFormatText o f (with_year (year_text (year_at (day_of x))) t) x
with_some_year (Is y) o f t x h = h.text_is
with_some_year (Near day) o f t x h = h.has.text_is

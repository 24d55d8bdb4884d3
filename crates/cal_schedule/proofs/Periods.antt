-- Days moved by periods.
use Rattle.std.proofs.Common.{◌≡◌, ℕ, ◌≤◌, ◌<◌, sym, ap, ◌∙◌, subst, arith, inl, inr, w32, FitsSigned}
use Rattle.std.proofs.lemmas.Int.{ints, by_lt_z}
use Rattle.std.proofs.lemmas.Bool.{cases_lt}
use Rattle.std.specs.Prelude.{◌≢◌, Bool, true, false, Result, Ok, Err, Option, Some, None, ℤ, pos, negsuc, neg_ℤ, ◌+ℤ◌, ◌*ℤ◌, ◌≤ℤ◌, IfSome, SomeIff}
use Rattle.cal_time.specs.SignedDuration.{day, whole_days}
use Rattle.cal_time.specs.Arithmetic.{clamped_date, IsDateNumber}
use Rattle.cal_time.specs.Date.{last_day, IsDate}
use Rattle.cal_schedule.specs.declared.period_error.PeriodError.{PeriodError}
use Rattle.cal_schedule.specs.Months.{IsMonthsLater}
use Rattle.cal_schedule.specs.Period.{date_period, days_of, months_of, AgreeInSign, IsDateAfter, IsDaysLater, IsOneSign, Parts}
use Rattle.cal_schedule.proofs.MonthMoves.{month_numbers-rise, one_later, IsMonthNumber-date}
use Rattle.cal_schedule.proofs.Untils.{no_months}

-- None is not a value
IsNone : Option ℕ → Type 0
IsNone None = Unit {0}
IsNone (Some n) = ⊥

pub no_value : (n : ℕ) → None ≡ Some n → ⊥
unfolding IsNone
no_value n e = subst IsNone e tt

IsFalse : Bool → Type 0
IsFalse true = ⊥
IsFalse false = Unit {0}

pub false_true : false ≡ true → ⊥
unfolding IsFalse
false_true e = subst IsFalse e tt

-- the months between two days of the range fit
pub months_fit : (n m : ℕ) (months : ℤ) → IsDate n → IsDate m → IsMonthsLater n months m → FitsSigned w32 months
months_fit n m months h i later =
    let a = IsMonthNumber-date n h in
    let b = IsMonthNumber-date m i in
    omega (arith, ints, a.not_before, a.not_after, b.not_before, b.not_after, later.month)

-- whole days of a duration of days, added to a day
whole : (d v : ℤ) → v ≡ d *ℤ pos day → whole_days v ≡ d
whole d v e = ap whole_days e ∙ back d
  where
    back : (d : ℤ) → whole_days (d *ℤ pos day) ≡ d
    back (pos a) = omega (arith, ints)
    back (negsuc a) = omega (arith, ints)

pub days_found : (r : Option ℕ) (n : ℕ) (d v : ℤ) → v ≡ d *ℤ pos day → SomeIff r (IsDateNumber (pos n +ℤ whole_days v)) (clamped_date (pos n +ℤ whole_days v))
    → IfSome r (λ (k : ℕ). pos k ≡ pos n +ℤ whole_days v) → IfSome r (λ (k : ℕ). IsDate k × (pos k ≡ pos n +ℤ d))
days_found None n d v e h f = tt
days_found (Some k) n d v e h f =
    let inside = h.0.not_after in
    (omega (arith, ints, f, inside), f ∙ ap (λ (x : ℤ). pos n +ℤ x) (whole d v e))

pub every_day : (r : Option ℕ) (n m : ℕ) (d v : ℤ) → v ≡ d *ℤ pos day → SomeIff r (IsDateNumber (pos n +ℤ whole_days v)) (clamped_date (pos n +ℤ whole_days v))
    → IfSome r (λ (k : ℕ). pos k ≡ pos n +ℤ whole_days v) → IsDate m → pos m ≡ pos n +ℤ d → r ≡ Some m
every_day None n m d v e h f inside is =
    let w = whole d v e in
    absurd (h (record { not_before = omega (arith, ints, w, is); not_after = omega (arith, ints, w, is, inside) }))
every_day (Some k) n m d v e h f inside is =
    let w = whole d v e in
    ap (λ (x : ℕ). Some x) (omega (arith, ints, w, f, is))

-- the day between is in the range, since months and days have one sign
pub middle_in_range : (n r m : ℕ) (months days : ℤ) → AgreeInSign months days → IsDate n → IsDate r → IsMonthsLater n months m → pos r ≡ pos m +ℤ days → IsDate m
middle_in_range n r m months days sign from to later moved =
    elim (cases_lt last_day m) as (λ _. IsDate m) [
      | inr least ↦ least
      | inl past ↦ elim sign as (λ _. IsDate m) [
        | inl up ↦ absurd (let d = up.1 in omega (arith, ints, d, moved, to))
        | inr down ↦
            let rise = month_numbers-rise n m (omega (arith, from)) in
            let zero : months ≡ pos 0 = let d = down.0 in omega (arith, ints, d, rise, later.month) in
            let same : m ≡ n = one_later n m n (pos 0) (subst (λ z. IsMonthsLater n z m) zero later) (no_months n) in
            absurd (omega (arith, from))
      ]
    ]

pub one_days_later : (n r s : ℕ) (months days : ℤ) → IsDaysLater n months days r → IsDaysLater n months days s → r ≡ s
one_days_later n r s months days a b =
    let e = one_later n a.middle b.middle months a.months_later b.months_later in
    let x = a.days_later in
    let y = b.days_later in
    omega (arith, ints, e, x, y)

-- a multiple of a period has one sign
up : (a : ℕ) (z : ℤ) → pos 0 ≤ℤ z → pos 0 ≤ℤ (pos a *ℤ z)
up a (pos b) h = omega (arith, ints)
up a (negsuc b) h = absurd (omega (arith, ints))

down : (a : ℕ) (z : ℤ) → z ≤ℤ pos 0 → (pos a *ℤ z) ≤ℤ pos 0
down a (pos b) h = let e : b ≡ 0 = omega (arith, ints) in subst (λ (k : ℕ). (pos a *ℤ pos k) ≤ℤ pos 0) (sym e) (grind (arith, ints))
down a (negsuc b) h = grind (arith, ints)

turned_up : (a : ℕ) (z : ℤ) → z ≤ℤ pos 0 → pos 0 ≤ℤ (negsuc a *ℤ z)
turned_up a (pos b) h = let e : b ≡ 0 = omega (arith, ints) in subst (λ (k : ℕ). pos 0 ≤ℤ (negsuc a *ℤ pos k)) (sym e) (grind (arith, ints))
turned_up a (negsuc b) h = grind (arith, ints)

turned_down : (a : ℕ) (z : ℤ) → pos 0 ≤ℤ z → (negsuc a *ℤ z) ≤ℤ pos 0
turned_down a (pos b) h = grind (arith, ints)
turned_down a (negsuc b) h = absurd (omega (arith, ints))

multiple : (n m d : ℤ) → AgreeInSign m d → AgreeInSign (n *ℤ m) (n *ℤ d)
multiple (pos a) m d (inl h) = inl (up a m h.0, up a d h.1)
multiple (pos a) m d (inr h) = inr (down a m h.0, down a d h.1)
multiple (negsuc a) m d (inl h) = inr (turned_down a m h.0, turned_down a d h.1)
multiple (negsuc a) m d (inr h) = inl (turned_up a m h.0, turned_up a d h.1)

pub parts_agree : (p : Parts) → IsOneSign p → AgreeInSign (months_of p) (days_of p)
parts_agree p (inl h) = inl (omega (arith, ints), omega (arith, ints))
parts_agree p (inr h) = inr (omega (arith, ints), omega (arith, ints))

pub multiples_agree : (n : ℤ) (p : Parts) → IsOneSign p → AgreeInSign (n *ℤ months_of p) (n *ℤ days_of p)
multiples_agree n p h = multiple n (months_of p) (days_of p) (parts_agree p h)

-- the parts from one day to another have one sign
pub until_sign : (a b : ℕ) (y m d : ℤ) → (a ≤ b → (pos 0 ≤ℤ y) × (pos 0 ≤ℤ m) × (m ≤ℤ pos 11) × (pos 0 ≤ℤ d))
    → (b < a → (y ≤ℤ pos 0) × (neg_ℤ (pos 11) ≤ℤ m) × (m ≤ℤ pos 0) × (d ≤ℤ pos 0)) → IsOneSign (date_period y m d)
until_sign a b y m d forward backward =
    elim (cases_lt b a) as (λ _. IsOneSign (date_period y m d)) [
      | inl back ↦ let h = backward back in inr (h.0, h.2, omega (arith, ints), h.3, omega (arith, ints))
      | inr on ↦ let h = forward on in inl (h.0, h.1, omega (arith, ints), h.3, omega (arith, ints))
    ]

pub once : (z : ℤ) → pos 1 *ℤ z ≡ z
once (pos n) = omega (arith, ints)
once (negsuc n) = omega (arith, ints)

-- a number is 0 or not
pub zero_or_not : (z : ℤ) (A : Type 0) → (z ≡ pos 0 → A) → (z ≢ pos 0 → A) → A
zero_or_not z A zero other = by_lt_z z (pos 0) (λ less. other (λ e. absurd (omega (arith, ints, e, less)))) (λ least. by_lt_z (pos 0) z (λ more. other (λ e. absurd (omega (arith, ints, e, more)))) (λ most. zero (omega (arith, ints))))

-- one answer
abbrev IsError : Result ℕ PeriodError → Type 0
IsError (Ok n) = ⊥
IsError (Err e) = Unit {0}

no_date : (m : ℕ) (e : PeriodError) → Err e ≡ Ok m → ⊥
no_date m e f = subst IsError f tt

pub one_date_after : (n : ℕ) (months days exact : ℤ) (a b : Result ℕ PeriodError) → IsDateAfter n months days exact a → IsDateAfter n months days exact b → a ≡ b
one_date_after n months days exact (Ok x) b h k = sym (k.value h.is.0 x h.is.1 h.is.2)
one_date_after n months days exact a (Ok y) h k = h.value k.is.0 y k.is.1 k.is.2
one_date_after n months days exact (Err e) (Err f) h k =
    zero_or_not exact (Err e ≡ Err f)
    (λ zero. h.none zero (λ m inside later. no_date m e (h.value zero m inside later)) ∙ sym (k.none zero (λ m inside later. no_date m f (k.value zero m inside later))))
    (λ other. h.no_clock other ∙ sym (k.no_clock other))

-- Contracts that allow only one result.
use Rattle.std.proofs.Common.{◌≡◌, ℕ, ◌<◌, ◌≤◌, inl, inr, refl, sym, ap, ◌∙◌, subst, arith, ℤ, pos, neg_ℤ, ◌+ℤ◌, ◌*ℤ◌, ◌≤ℤ◌, ◌<ℤ◌, List, [], ◌∷◌, reverse, slice_get, Option, Some, None, Result, Ok, Err}
use Rattle.std.specs.Prelude.{IfNone, IfSome, IfOk, IfErr, IsSome, ◌↔◌}
use Rattle.std.specs.Iterator.{YieldsLast}
use Rattle.std.proofs.lemmas.Bool.{cases_lt}
use Rattle.std.proofs.lemmas.Int.{ints, by_lt_z}
use Rattle.std.proofs.lemmas.List.{reverse-append}
use Rattle.cal_time.specs.declared.error.ComponentRange.{ComponentRange}
use Rattle.cal_time.specs.Date.{first_year, last_year, last_day, IsDate}
use Rattle.cal_schedule.specs.Months.{month_number_at, IsMonthNumber, IsMonthsLater}
use Rattle.cal_schedule.specs.Period.{date_period, days_of, months_of, AgreeInSign, IsDaysLater, IsOneSign, Parts}
use Rattle.cal_schedule.specs.Steps.{IsGreatestStep, IsStepUpTo}
use Rattle.cal_schedule.specs.Units.{HasMostMonths, IsCountedBy, IsFirstOf, IsLastOf, IsUntilBy}
use Rattle.cal_schedule.specs.declared.unit.CalendarUnit.{CalendarUnit}
use Rattle.cal_schedule.specs.declared.unit.CalendarUnit.TheVariants.{Day, Week, Month, Quarter, Year}
use Rattle.cal_time.specs.Laws.{calendar_date-one}
use Rattle.cal_schedule.specs.Until.{IsPeriodUntil, IsGreatest, IsLeast}
use Rattle.cal_schedule.proofs.MonthMoves.{one_later}

-- The day with a property, or none if no day has it.
pub moved-one : (Has : ℕ → Type 0) (r s : Option ℕ) → ((n : ℕ) → IsDate n → Has n → r ≡ Some n) → IfSome r (λ n. IsDate n × Has n)
    → ((n : ℕ) → IsDate n → Has n → s ≡ Some n) → IfSome s (λ n. IsDate n × Has n) → r ≡ s
moved-one Has r (Some n) every has more having = every n having.0 having.1
moved-one Has None None every has more having = refl
moved-one Has (Some m) None every has more having = sym (more m has.0 has.1)

-- The same, or the only error.
pub refused-one : (Has : ℕ → Type 0) (a : ComponentRange) (r s : Result ℕ ComponentRange) → ((n : ℕ) → IsDate n → Has n → r ≡ Ok n) → IfOk r (λ n. IsDate n × Has n) → IfErr r (λ e. e ≡ a)
    → ((n : ℕ) → IsDate n → Has n → s ≡ Ok n) → IfOk s (λ n. IsDate n × Has n) → IfErr s (λ e. e ≡ a) → r ≡ s
refused-one Has a r (Ok n) every has why more having reason = every n having.0 having.1
refused-one Has a (Err d) (Err e) every has why more having reason = ap Err (why ∙ sym reason)
refused-one Has a (Ok m) (Err e) every has why more having reason = sym (more m has.0 has.1)

-- held at the ends of the range
pub held-one : (n r s : ℕ) (m : ℤ)
    → (IsMonthNumber (month_number_at n +ℤ m) → IsMonthsLater n m r) → ((month_number_at n +ℤ m) <ℤ (first_year *ℤ pos 12) → r ≡ 0)
    → (((last_year +ℤ pos 1) *ℤ pos 12) ≤ℤ (month_number_at n +ℤ m) → r ≡ last_day)
    → (IsMonthNumber (month_number_at n +ℤ m) → IsMonthsLater n m s) → ((month_number_at n +ℤ m) <ℤ (first_year *ℤ pos 12) → s ≡ 0)
    → (((last_year +ℤ pos 1) *ℤ pos 12) ≤ℤ (month_number_at n +ℤ m) → s ≡ last_day) → r ≡ s
held-one n r s m within before past inside below above =
    by_lt_z (month_number_at n +ℤ m) (first_year *ℤ pos 12) (λ less. before less ∙ sym (below less)) (λ least.
    by_lt_z (month_number_at n +ℤ m) ((last_year +ℤ pos 1) *ℤ pos 12)
    (λ most. let is : IsMonthNumber (month_number_at n +ℤ m) = record { not_before = least; not_after = most } in one_later n r s m (within is) (inside is))
    (λ more. past more ∙ sym (above more)))

-- The maximum and the minimum.
greatest-one : (Holds : ℤ → Type 0) (y z : ℤ) → IsGreatest Holds y → IsGreatest Holds z → y ≡ z
greatest-one Holds y z h k = omega (arith, ints, h.greatest z k.holds, k.greatest y h.holds)

least-one : (Holds : ℤ → Type 0) (y z : ℤ) → IsLeast Holds y → IsLeast Holds z → y ≡ z
least-one Holds y z h k = omega (arith, ints, h.least z k.holds, k.least y h.holds)

pub until-one : (a b : ℕ) (Up Back : ℤ → Type 0) (y z : ℤ) → (a ≤ b → IsGreatest Up y) → (b < a → IsLeast Back y) → (a ≤ b → IsGreatest Up z) → (b < a → IsLeast Back z) → y ≡ z
until-one a b Up Back y z on back more less =
    elim (cases_lt b a) as (λ _. y ≡ z) [
      | inl before ↦ least-one Back y z (back before) (less before)
      | inr after ↦ greatest-one Up y z (on after) (more after)
    ]

-- years and months of one sign, of one number of months, and the days that are left
pub period-one : (a b : ℕ) (p q : Parts) → IsPeriodUntil a b p → IsPeriodUntil a b q → months_of p ≡ months_of q
    → p.years ≡ q.years → p.months ≡ q.months → p ≡ q
period-one a b p q h k e years months =
    let day : h.day ≡ k.day = one_later a h.day k.day (months_of q) (subst (λ m. IsMonthsLater a m h.day) e h.later) k.later in
    let days : p.days ≡ q.days = omega (arith, ints, h.days, k.days, ap pos day) in
    h.only ∙ ap (λ (y : ℤ). date_period y p.months p.days) years ∙ ap (λ (m : ℤ). date_period q.years m p.days) months
    ∙ ap (λ (d : ℤ). date_period q.years q.months d) days ∙ sym k.only

-- the last item of a list, which a step from the back takes
pub last_is : (days rest : List ℕ) (r : Option ℕ) → YieldsLast (λ l. l) days r rest → r ≡ slice_get (reverse days) 0
last_is days rest None h = ap (λ l. slice_get (reverse l) 0) (sym h.0)
last_is days rest (Some x) h = sym (ap (λ l. slice_get (reverse l) 0) h ∙ ap (λ l. slice_get l 0) (reverse-append rest (x ∷ [])))

-- ---- the first and the last day of a unit
pub first_of-one : (unit : CalendarUnit) (n a b : ℕ) → IsDate a → IsDate b → IsFirstOf unit n a → IsFirstOf unit n b → a ≡ b
first_of-one Day n a b h k e f = e ∙ sym f
first_of-one Week n a b h k e f = omega (arith, e, f)
first_of-one Month n a b h k e f = calendar_date-one _ _ _ a b h k e f
first_of-one Quarter n a b h k e f = calendar_date-one _ _ _ a b h k e f
first_of-one Year n a b h k e f = calendar_date-one _ _ _ a b h k e f

pub last_of-one : (unit : CalendarUnit) (n a b : ℕ) → IsDate a → IsDate b → IsLastOf unit n a → IsLastOf unit n b → a ≡ b
last_of-one Day n a b h k e f = e ∙ sym f
last_of-one Week n a b h k e f = omega (arith, e, f)
last_of-one Month n a b h k e f = calendar_date-one _ _ _ a b h k e f
last_of-one Quarter n a b h k e f = calendar_date-one _ _ _ a b h k e f
last_of-one Year n a b h k e f = calendar_date-one _ _ _ a b h k e f

-- ---- a period counted in a unit
same_parts : (p q : Parts) → p.years ≡ q.years → p.months ≡ q.months → p.weeks ≡ q.weeks → p.days ≡ q.days → p.exact ≡ q.exact → p ≡ q
same_parts p q a b c d e = λ i. record { years = a i; months = b i; weeks = c i; days = d i; exact = e i }

-- two numbers of one sign, the second one less than 7 or 12 of the first
sevens : (w d v e : ℤ) → pos 7 *ℤ w +ℤ d ≡ pos 7 *ℤ v +ℤ e → neg_ℤ (pos 6) ≤ℤ d → d ≤ℤ pos 6 → neg_ℤ (pos 6) ≤ℤ e → e ≤ℤ pos 6 → AgreeInSign w d → AgreeInSign v e → (w ≡ v) × (d ≡ e)
sevens w d v e same a b f g (inl h) (inl k) = (omega (arith, ints, same, a, b, f, g, h.0, h.1, k.0, k.1), omega (arith, ints, same, a, b, f, g, h.0, h.1, k.0, k.1))
sevens w d v e same a b f g (inl h) (inr k) = (omega (arith, ints, same, a, b, f, g, h.0, h.1, k.0, k.1), omega (arith, ints, same, a, b, f, g, h.0, h.1, k.0, k.1))
sevens w d v e same a b f g (inr h) (inl k) = (omega (arith, ints, same, a, b, f, g, h.0, h.1, k.0, k.1), omega (arith, ints, same, a, b, f, g, h.0, h.1, k.0, k.1))
sevens w d v e same a b f g (inr h) (inr k) = (omega (arith, ints, same, a, b, f, g, h.0, h.1, k.0, k.1), omega (arith, ints, same, a, b, f, g, h.0, h.1, k.0, k.1))

twelves : (w d v e : ℤ) → pos 12 *ℤ w +ℤ d ≡ pos 12 *ℤ v +ℤ e → neg_ℤ (pos 11) ≤ℤ d → d ≤ℤ pos 11 → neg_ℤ (pos 11) ≤ℤ e → e ≤ℤ pos 11 → AgreeInSign w d → AgreeInSign v e → (w ≡ v) × (d ≡ e)
twelves w d v e same a b f g (inl h) (inl k) = (omega (arith, ints, same, a, b, f, g, h.0, h.1, k.0, k.1), omega (arith, ints, same, a, b, f, g, h.0, h.1, k.0, k.1))
twelves w d v e same a b f g (inl h) (inr k) = (omega (arith, ints, same, a, b, f, g, h.0, h.1, k.0, k.1), omega (arith, ints, same, a, b, f, g, h.0, h.1, k.0, k.1))
twelves w d v e same a b f g (inr h) (inl k) = (omega (arith, ints, same, a, b, f, g, h.0, h.1, k.0, k.1), omega (arith, ints, same, a, b, f, g, h.0, h.1, k.0, k.1))
twelves w d v e same a b f g (inr h) (inr k) = (omega (arith, ints, same, a, b, f, g, h.0, h.1, k.0, k.1), omega (arith, ints, same, a, b, f, g, h.0, h.1, k.0, k.1))

weeks_agree : (p : Parts) → IsOneSign p → AgreeInSign p.weeks p.days
weeks_agree p (inl h) = inl (h.2, h.3)
weeks_agree p (inr h) = inr (h.2, h.3)

years_agree : (p : Parts) → IsOneSign p → AgreeInSign p.years p.months
years_agree p (inl h) = inl (h.0, h.1)
years_agree p (inr h) = inr (h.0, h.1)

-- the months and the days are the same
same_months : (unit : CalendarUnit) (n t : ℕ) (y z : ℤ) → HasMostMonths unit n t y → HasMostMonths unit n t z → y ≡ z
same_months Day n t y z h k = h ∙ sym k
same_months Week n t y z h k = h ∙ sym k
same_months Month n t y z h k = until-one n t _ _ y z h.0 h.1 k.0 k.1
same_months Quarter n t y z h k = until-one n t _ _ y z h.0 h.1 k.0 k.1
same_months Year n t y z h k = until-one n t _ _ y z h.0 h.1 k.0 k.1

same_days : (n t : ℕ) (m k d e : ℤ) → m ≡ k → IsDaysLater n m d t → IsDaysLater n k e t → d ≡ e
same_days n t m k d e same h g =
    let one = one_later n h.middle g.middle k (subst (λ (x : ℤ). IsMonthsLater n x h.middle) same h.months_later) g.months_later in
    let a = h.days_later in
    let b = g.days_later in
    omega (arith, ints, one, a, b)

pub until_by-one : (unit : CalendarUnit) (n t : ℕ) (p q : Parts) → IsUntilBy unit n t p → IsUntilBy unit n t q → p ≡ q
until_by-one unit n t p q h k = by_unit unit h.counted k.counted
  where
    months : months_of p ≡ months_of q
    months = same_months unit n t (months_of p) (months_of q) h.most k.most

    days : days_of p ≡ days_of q
    days = same_days n t _ _ _ _ months h.leads k.leads

    exact : p.exact ≡ q.exact
    exact = h.no_clock ∙ sym k.no_clock

    by_unit : (u : CalendarUnit) → IsCountedBy u p → IsCountedBy u q → p ≡ q
    by_unit Day a b = let x = a.0 in let y = b.0 in let z = a.1 in let w = b.1 in let u = a.2 in let v = b.2 in same_parts p q (x ∙ sym y) (z ∙ sym w) (u ∙ sym v) (omega (arith, ints, days, u, v)) exact
    by_unit Week a b =
        let x = a.0 in let y = b.0 in let z = a.1 in let w = b.1 in
        let both = sevens p.weeks p.days q.weeks q.days days a.2 a.3 b.2 b.3 (weeks_agree p h.one_sign) (weeks_agree q k.one_sign) in
        same_parts p q (x ∙ sym y) (z ∙ sym w) both.0 both.1 exact
    by_unit Month a b = let x = a.0 in let y = b.0 in let u = a.1 in let v = b.1 in same_parts p q (x ∙ sym y) (omega (arith, ints, months, x, y)) (u ∙ sym v) (omega (arith, ints, days, u, v)) exact
    by_unit Quarter a b = let x = a.0 in let y = b.0 in let u = a.1 in let v = b.1 in same_parts p q (x ∙ sym y) (omega (arith, ints, months, x, y)) (u ∙ sym v) (omega (arith, ints, days, u, v)) exact
    by_unit Year a b =
        let u = a.2 in let v = b.2 in
        let both = twelves p.years p.months q.years q.months months a.0 a.1 b.0 b.1 (years_agree p h.one_sign) (years_agree q k.one_sign) in
        same_parts p q both.0 both.1 (u ∙ sym v) (omega (arith, ints, days, u, v)) exact

pub greatest_step-one : (start t : ℕ) (p : Parts) (y z : ℤ) → IsGreatestStep start t p y → IsGreatestStep start t p z → y ≡ z
greatest_step-one start t p y z h k = greatest-one (IsStepUpTo start t p) y z h k

pub last_of-both : (unit : CalendarUnit) (n : ℕ) (r s : Option ℕ) → IfSome r (λ k. IsDate k × IsLastOf unit n k) → IfNone r ((k : ℕ) → IsDate k → ¬ IsLastOf unit n k)
    → IfSome s (λ k. IsDate k × IsLastOf unit n k) → IfNone s ((k : ℕ) → IsDate k → ¬ IsLastOf unit n k) → r ≡ s
last_of-both unit n None None has none having other = refl
last_of-both unit n (Some a) None has none having other = absurd (other a has.0 has.1)
last_of-both unit n None (Some b) has none having other = absurd (none b having.0 having.1)
last_of-both unit n (Some a) (Some b) has none having other = ap (λ (k : ℕ). Some k) (last_of-one unit n a b has.0 having.0 has.1 having.1)

-- ---- the last step that is not after a day, if there is one
pub step_of-one : (start t : ℕ) (p : Parts) (P : Type 0) (r s : Option ℤ) → IfSome r (IsGreatestStep start t p) → IsSome r ↔ P → IfSome s (IsGreatestStep start t p) → IsSome s ↔ P → r ≡ s
step_of-one start t p P (Some y) (Some z) h i k j = ap (λ (x : ℤ). Some x) (greatest-one (IsStepUpTo start t p) y z h k)
step_of-one start t p P None None h i k j = refl
step_of-one start t p P (Some y) None h i k j = absurd (let e = j.1 (i.0 refl) in cc)
step_of-one start t p P None (Some z) h i k j = absurd (let e = i.1 (j.0 refl) in cc)

-- Days after a move, if they exist.
use Rattle.std.proofs.Common.{◌≡◌, ℕ, ◌<◌, ◌≤◌, ◌==◌, if◌then◌else◌, refl, sym, ap, ◌∙◌, arith, ℤ, pos, ◌≤ℤ◌, ◌<ℤ◌, Option, Some, None, IfSome, IfNone, Result, Ok, Err, IfOk, IfErr, subst}
use Rattle.std.proofs.lemmas.Int.{ints}
use Rattle.cal_time.specs.Date.{IsDate}
use Rattle.cal_schedule.specs.declared.year_fraction.DayCount.{DayCount}
use Rattle.cal_schedule.specs.declared.year_fraction.DayCount.TheVariants.{Actual360, Actual365Fixed, Thirty360, ThirtyE360, ActualActual}
use Rattle.cal_schedule.specs.Period.{parts, Parts}
use Rattle.cal_schedule.specs.declared.workdays.convention.Convention.{Convention}
use Rattle.cal_schedule.specs.declared.workdays.convention.Convention.TheVariants.{Unadjusted, Following, ModifiedFollowing, Preceding, ModifiedPreceding}
use Rattle.cal_c.specs.Columns.{IsByte}
use Rattle.cal_c.specs.Results.{date_error, date_or_out_of_range, number_ok, IsDateWith}
use Rattle.cal_c.specs.Schedule.{day_count_number, period_ok, IsNumberWith, IsPeriodWith}
use Rattle.cal_c.specs.declared.status.TheConstants.{RESULT_OUT_OF_RANGE}
use Rattle.cal_c.specs.Values.{IsJulianDay, day_of}
use Rattle.cal_c.specs.Weekmasks.{convention_number}
use Rattle.cal_c.proofs.Days.{IsDateWith-at}

pub day-if-any : (Has : ℕ → Type 0) (A : Type 0) (r : Option ℕ) → IfSome r (λ n. IsDate n × Has n) → IfNone r (A → ⊥) → A → IsDateWith Has (date_or_out_of_range r)
day-if-any Has A None has none a = absurd (none a)
day-if-any Has A (Some n) has none a = IsDateWith-at Has n has.0 has.1

pub past-if-any : (A : Type 0) (r : Option ℕ) → IfSome r (λ n. A) → (A → ⊥) → date_or_out_of_range r ≡ date_error RESULT_OUT_OF_RANGE
past-if-any A None some out = refl
past-if-any A (Some n) some out = absurd (out some)

-- A property of each error is a property of this error, and a property of each value is a property
-- of this value.
pub if_refused : {V : Type 0} (R : ℤ → Type 0) (r : Result V ℤ) (s : ℤ) → r ≡ Err s → IsByte s → IfErr r (λ t. IsByte t → R t) → R s
if_refused R r s is byte h = subst (λ q. IfErr q (λ t. IsByte t → R t)) is h byte

pub if_read : {V E : Type 0} (P : V → Type 0) (r : Result V E) (v : V) → r ≡ Ok v → IfOk r P → P v
if_read P r v is h = subst (λ q. IfOk q P) is h

-- days in the order of their Julian days
pub not_after : (j k : ℤ) → IsJulianDay j → IsJulianDay k → j ≤ℤ k → day_of j ≤ day_of k
not_after j k h i e = omega (arith, ints)

pub before : (j k : ℤ) → IsJulianDay j → IsJulianDay k → j <ℤ k → day_of j < day_of k
before j k h i e = omega (arith, ints)

pub number-with : (Has : ℤ → Type 0) (z : ℤ) → Has z → IsNumberWith Has (number_ok z)
number-with Has z h = record { status_is = refl; has = h }

pub period-with : (Has : Parts → Type 0) (p : Parts) → p.exact ≡ pos 0 → Has p → IsPeriodWith Has (period_ok p)
period-with Has p e h = record { status_is = refl; has = subst Has (ap (parts p.years p.months p.weeks p.days) e) h }

-- each number is of one day count
abbrev count_at : ℕ → DayCount
count_at k = if k == 1 then Actual360 else (if k == 2 then Actual365Fixed else (if k == 3 then Thirty360 else (if k == 4 then ThirtyE360 else ActualActual)))

count_at-number : (c : DayCount) → count_at (day_count_number c) ≡ c
count_at-number Actual360 = refl
count_at-number Actual365Fixed = refl
count_at-number Thirty360 = refl
count_at-number ThirtyE360 = refl
count_at-number ActualActual = refl

pub same_count : (a b : DayCount) → day_count_number a ≡ day_count_number b → a ≡ b
same_count a b e = sym (count_at-number a) ∙ ap count_at e ∙ count_at-number b

-- and of one convention
abbrev convention_at : ℕ → Convention
convention_at k = if k == 0 then Unadjusted else (if k == 1 then Following else (if k == 2 then ModifiedFollowing else (if k == 3 then Preceding else ModifiedPreceding)))

convention_at-number : (c : Convention) → convention_at (convention_number c) ≡ c
convention_at-number Unadjusted = refl
convention_at-number Following = refl
convention_at-number ModifiedFollowing = refl
convention_at-number Preceding = refl
convention_at-number ModifiedPreceding = refl

pub same_convention : (a b : Convention) → convention_number a ≡ convention_number b → a ≡ b
same_convention a b e = sym (convention_at-number a) ∙ ap convention_at e ∙ convention_at-number b

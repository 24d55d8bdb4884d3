-- Periods between local date-times.
use Rattle.std.proofs.Common.{◌≡◌, ℕ, ◌≤◌, subst, arith, inl, inr}
use Rattle.std.specs.Prelude.{ℤ, pos, ◌+ℤ◌, ◌-ℤ◌, ◌≤ℤ◌}
use Rattle.std.proofs.lemmas.Int.{ints, by_lt_z}
use Rattle.cal_datetime.specs.DateTime.{date_at, with_date}
use Rattle.cal_schedule.specs.Months.{IsMonthsLater}
use Rattle.cal_schedule.specs.Period.{parts, IsDaysLater, IsNotNegative, IsNotPositive, IsOneSign, Parts, days_of, months_of}
use Rattle.cal_schedule.specs.Units.{IsUntilBy}
use Rattle.cal_schedule.specs.declared.unit.CalendarUnit.{CalendarUnit}
use Rattle.cal_schedule.proofs.MonthMoves.{month_numbers-rise, one_later}
use Rattle.cal_schedule.proofs.Untils.{no_months}
use Rattle.cal_schedule.proofs.OneAnswer.{until_by-one}
use Rattle.cal_zoned.specs.Until.{date_part, IsLastWholeDay, IsPeriodUntil}

-- ---- a period that leads on has no negative part, and one that leads back no positive one
none_left : (n t : ℕ) (m d : ℤ) → m ≡ pos 0 → IsDaysLater n m d t → d ≡ pos t -ℤ pos n
none_left n t m d e h =
    let same = one_later n h.middle n (pos 0) (subst (λ (x : ℤ). IsMonthsLater n x h.middle) e h.months_later) (no_months n) in
    let later = h.days_later in
    omega (arith, ints, same, later)

no_months_back : (n t : ℕ) (m d : ℤ) → pos 0 ≤ℤ m → pos 0 ≤ℤ d → t ≤ n → IsDaysLater n m d t → m ≡ pos 0
no_months_back n t m d some more back h =
    let later = h.days_later in
    let rise = month_numbers-rise h.middle n (omega (arith, ints, later, more, back)) in
    let month = h.months_later.month in
    omega (arith, ints, rise, month, some)

no_months_on : (n t : ℕ) (m d : ℤ) → m ≤ℤ pos 0 → d ≤ℤ pos 0 → n ≤ t → IsDaysLater n m d t → m ≡ pos 0
no_months_on n t m d some more on h =
    let later = h.days_later in
    let rise = month_numbers-rise n h.middle (omega (arith, ints, later, more, on)) in
    let month = h.months_later.month in
    omega (arith, ints, rise, month, some)

pub leads_on : (n t : ℕ) (p : Parts) → IsOneSign p → IsDaysLater n (months_of p) (days_of p) t → n ≤ t → p.exact ≡ pos 0 → IsNotNegative p
leads_on n t p (inl up) h on none = up
leads_on n t p (inr down) h on none =
    let y = down.0 in let m = down.1 in let w = down.2 in let d = down.3 in
    let months = no_months_on n t (months_of p) (days_of p) (omega (arith, ints, y, m)) (omega (arith, ints, w, d)) on h in
    let days = none_left n t (months_of p) (days_of p) months h in
    (omega (arith, ints, y, m, months), omega (arith, ints, y, m, months), omega (arith, ints, w, d, days, on), omega (arith, ints, w, d, days, on), omega (arith, ints, none))

pub leads_back : (n t : ℕ) (p : Parts) → IsOneSign p → IsDaysLater n (months_of p) (days_of p) t → t ≤ n → p.exact ≡ pos 0 → IsNotPositive p
leads_back n t p (inr down) h back none = down
leads_back n t p (inl up) h back none =
    let y = up.0 in let m = up.1 in let w = up.2 in let d = up.3 in
    let months = no_months_back n t (months_of p) (days_of p) (omega (arith, ints, y, m)) (omega (arith, ints, w, d)) back h in
    let days = none_left n t (months_of p) (days_of p) months h in
    (omega (arith, ints, y, m, months), omega (arith, ints, y, m, months), omega (arith, ints, w, d, days, back), omega (arith, ints, w, d, days, back), omega (arith, ints, none))

-- ---- the rest has the sign of the days
pub rest_sign : (unit : CalendarUnit) (z t : ℤ) (n : ℕ) (p : Parts) (e : ℤ) → IsLastWholeDay z t n → IsUntilBy unit (date_at z) n p → e ≡ t -ℤ with_date z n → IsOneSign (parts p.years p.months p.weeks p.days e)
rest_sign unit z t n p e last h is =
    by_lt_z t z
    (λ less. let b = last.backward less in let x = b.0 in let y = b.1 in let s = leads_back (date_at z) n p h.one_sign h.leads x h.no_clock in
    inr (s.0, s.1, s.2, s.3, omega (arith, ints, is, y)))
    (λ most. let f = last.forward most in let x = f.0 in let y = f.1 in let s = leads_on (date_at z) n p h.one_sign h.leads x h.no_clock in
    inl (s.0, s.1, s.2, s.3, omega (arith, ints, is, y)))

pub is_rest : (z t e : ℤ) (n : ℕ) → e ≡ t -ℤ with_date z n → t ≡ with_date z n +ℤ e
is_rest z t e n h = omega (arith, ints, h)

-- ---- one answer
pub no_clock_part : (p : Parts) → p.exact ≡ pos 0 → p ≡ date_part p
no_clock_part p e = λ i. record { years = p.years; months = p.months; weeks = p.weeks; days = p.days; exact = e i }

same_whole : (z t : ℤ) (m n : ℕ) → IsLastWholeDay z t m → IsLastWholeDay z t n → m ≡ n
same_whole z t m n h k =
    by_lt_z t z
    (λ less. let a = h.backward less in let b = k.backward less in let x = a.1 in let y = a.2 in let v = b.1 in let w = b.2 in omega (arith, ints, x, y, v, w))
    (λ most. let a = h.forward most in let b = k.forward most in let x = a.1 in let y = a.2 in let v = b.1 in let w = b.2 in omega (arith, ints, x, y, v, w))

pub period_until-one : (unit : CalendarUnit) (z t : ℤ) (p q : Parts) → IsPeriodUntil unit z t p → IsPeriodUntil unit z t q → p ≡ q
period_until-one unit z t p q h k =
    let same = same_whole z t h.whole k.whole h.last k.last in
    let parts_are = until_by-one unit (date_at z) k.whole (date_part p) (date_part q) (subst (λ (n : ℕ). IsUntilBy unit (date_at z) n (date_part p)) same h.counted) k.counted in
    let a = h.exact in
    let b = k.exact in
    let exact : p.exact ≡ q.exact = omega (arith, ints, same, a, b) in
    λ i. record { years = (parts_are i).years; months = (parts_are i).months; weeks = (parts_are i).weeks; days = (parts_are i).days; exact = exact i }

-- The months from a day of the range to a day of the range, or shortly before or after it.
use Rattle.std.proofs.Common.{◌≡◌, ◌⊎◌, ℕ, ◌+◌, ◌-◌, ◌<◌, ◌≤◌, inl, inr, refl, sym, ap, ◌∙◌, subst, arith, ℤ, pos, negsuc, ◌+ℤ◌, ◌-ℤ◌, ◌*ℤ◌, ◌≤ℤ◌, ◌<ℤ◌, neg_ℤ, unsigned_abs}
use Rattle.std.proofs.lemmas.Bool.{cases_lt}
use Rattle.std.proofs.lemmas.Int.{clamps, ints, by_lt_z}
use Rattle.cal_date.specs.Arithmetic.{clamped_date}
use Rattle.cal_time.specs.CalendarDay.{CalendarDay, calendar_day}
use Rattle.cal_time.specs.Date.{first_year, last_year, last_day, year_at, month_at, day_of_month_at, IsDate, HasCalendarDate}
use Rattle.cal_time.specs.Days.{day_at-first, day_at-last, day_at-period, day_of_month_at-range, day_with, days_in_month-period, days-follow, last_of, year-next}
use Rattle.cal_time.specs.Lengths.{days_in_month}
use Rattle.cal_time.specs.SignedDuration.{whole_days}
use Rattle.cal_time.specs.UtcOffset.{IsOffset}
use Rattle.cal_datetime.specs.DateTime.{date_at, last_date_time, IsDateTime}
use Rattle.cal_datetime.specs.OffsetDateTime.{LocalAndOffset, instant}
use Rattle.cal_schedule.specs.MonthLaws.{month_numbers-rise, number_from, one_day}
use Rattle.cal_schedule.specs.Months.{month_number_at, IsMonthsLater}
use Rattle.cal_schedule.specs.Until.{IsMonthsUpTo, IsMonthsBackTo, IsGreatest, IsLeast}
use Rattle.cal_schedule.proofs.MonthMoves.{one_later}
use Rattle.caldate_answers.specs.Counts.{AreMonths, IsUpTo, IsBackTo, duration_between, number_of, reached}

-- ---- 400 years later
number_later : (n : ℕ) → month_number_at (n + 146097) ≡ month_number_at n +ℤ pos 4800
number_later n = let e = day_at-period n in omega (arith, ints, ap (λ d. d.year) e, ap (λ d. d.month) e)

day_later : (n : ℕ) → day_of_month_at (n + 146097) ≡ day_of_month_at n
day_later n = ap (λ d. d.day) (day_at-period n)

length_later : (n : ℕ) → days_in_month (year_at (n + 146097)) (month_at (n + 146097)) ≡ days_in_month (year_at n) (month_at n)
length_later n = ap (λ d. days_in_month d.year d.month) (day_at-period n) ∙ days_in_month-period (year_at n) (month_at n)

shift : (n r : ℕ) (m : ℤ) → IsMonthsLater n m r → IsMonthsLater (n + 146097) m (r + 146097)
shift n r m h = record {
  month = omega (arith, ints, number_later n, number_later r, h.month);
  day = omega (arith, day_later n, day_later r, length_later r, h.day);
}

shift_back : (n r : ℕ) (m : ℤ) → IsMonthsLater (n + 146097) m (r + 146097) → IsMonthsLater n m r
shift_back n r m h = record {
  month = omega (arith, ints, number_later n, number_later r, h.month);
  day = omega (arith, day_later n, day_later r, length_later r, h.day);
}

later_day : (n r : ℕ) (m : ℤ) → 146097 ≤ r → IsMonthsLater (n + 146097) m r → IsMonthsLater n m (r - 146097)
later_day n r m least h = shift_back n (r - 146097) m (subst (IsMonthsLater (n + 146097) m) (omega (arith, least)) h)

up_shift : (n t : ℕ) (z : ℤ) → pos 0 ≤ℤ z → IsGreatest (IsUpTo n t) z → IsGreatest (IsUpTo (n + 146097) (t + 146097)) z
up_shift n t z some h = record {
  holds = (h.holds.0 + 146097, shift n h.holds.0 z h.holds.1, omega (arith, h.holds.2));
  greatest = λ k at. elim (cases_lt at.0 146097) as (λ _. k ≤ℤ z) [
    | inl before ↦ omega (arith, ints, some, month_numbers-rise at.0 (n + 146097) (omega (arith, before)), at.1.month)
    | inr least ↦ h.greatest k (at.0 - 146097, later_day n at.0 k least at.1, omega (arith, at.2))
  ];
}

back_shift : (n t : ℕ) (z : ℤ) → IsLeast (IsBackTo n t) z → IsLeast (IsBackTo (n + 146097) (t + 146097)) z
back_shift n t z h = record {
  holds = (h.holds.0 + 146097, shift n h.holds.0 z h.holds.1, omega (arith, h.holds.2));
  least = λ k at. h.least k (at.0 - 146097, later_day n at.0 k (omega (arith, at.2)) at.1, omega (arith, at.2));
}

-- ---- a day of the range
up_to : (n t : ℕ) (z : ℤ) → IsDate t → IsGreatest (IsMonthsUpTo n t) z → IsGreatest (IsUpTo n t) z
up_to n t z date h = record {
  holds = (h.holds.day, h.holds.later, h.holds.in_time);
  greatest = λ k at. h.greatest k (record { day = at.0; date = omega (arith, at.2, date); later = at.1; in_time = at.2 });
}

back_to : (n t : ℕ) (z : ℤ) → IsDate n → z ≤ℤ pos 0 → IsLeast (IsMonthsBackTo n t) z → IsLeast (IsBackTo n t) z
back_to n t z date few h = record {
  holds = (h.holds.day, h.holds.later, h.holds.in_time);
  least = λ k at. elim (cases_lt last_day at.0) as (λ _. z ≤ℤ k) [
    | inl past ↦ omega (arith, ints, few, month_numbers-rise n at.0 (omega (arith, past, date)), at.1.month)
    | inr within ↦ h.least k (record { day = at.0; date = within; later = at.1; in_time = at.2 })
  ];
}

pub months_within : (n t : ℕ) (z : ℤ) → IsDate n → IsDate t → (n ≤ t → IsGreatest (IsMonthsUpTo n t) z) → (t < n → IsLeast (IsMonthsBackTo n t) z)
    → (n ≤ t → pos 0 ≤ℤ z) → (t < n → z ≤ℤ pos 0) → AreMonths (n + 146097) (t + 146097) z
unfolding AreMonths
months_within n t z first last on back some few = (
  λ h. let at : n ≤ t = omega (arith, h) in up_shift n t z (some at) (up_to n t z last (on at)),
  λ h. let at : t < n = omega (arith, h) in back_shift n t z (back_to n t z first (few at) (back at)),
)

-- ---- a new year, on whose first day b a December has passed since its first day p
record IsNewYear (p b : ℕ) (y : ℤ) : Type 0 where
  passed : p + 31 ≡ b
  december : HasCalendarDate (y -ℤ pos 1) 12 1 p
  january : HasCalendarDate y 1 1 b

in_december : (y : ℤ) → days_in_month y 12 ≡ 31
unfolding days_in_month
in_december y = refl

in_january : (y : ℤ) → days_in_month y 1 ≡ 31
unfolding days_in_month
in_january y = refl

-- the day of such a month, from the first day f of the month
in_month : (a f i : ℕ) (y m : ℤ) → HasCalendarDate y i 1 f → days_in_month y i ≡ 31 → day_of_month_at a ≤ 31 → month_number_at a +ℤ m ≡ y *ℤ pos 12 +ℤ pos i -ℤ pos 1
    → IsMonthsLater a m (f + (day_of_month_at a - 1))
in_month a f i y m first long most e =
    let d = day_of_month_at a in
    let some = (day_of_month_at-range a).0 in
    let has = days-follow y i f (d - 1) first (omega (arith, long, most, some)) in
    let same : days_in_month (year_at (f + (d - 1))) (month_at (f + (d - 1))) ≡ 31 = ap (λ c. days_in_month c.year c.month) has ∙ long in
    record { month = omega (arith, ints, number_from (f + (d - 1)) y i (d - 1 + 1) has, e); day = omega (arith, ap (λ c. c.day) has, same, most, some) }

greatest_past : (p b : ℕ) (y : ℤ) → IsNewYear p b y → (a i : ℕ) (m : ℤ) → i < 31 → day_of_month_at a ≤ 31 → month_number_at a +ℤ m ≡ y *ℤ pos 12
    → (day_of_month_at a ≤ i + 1 → IsGreatest (IsUpTo a (b + i)) m) × (i + 1 < day_of_month_at a → IsGreatest (IsUpTo a (b + i)) (m -ℤ pos 1))
greatest_past p b y new a i m low most e = (
  λ early. record {
    holds = (b + (d - 1), january, omega (arith, early));
    greatest = λ k at. omega (arith, ints, e, number, month_numbers-rise at.0 (b + i) at.2, at.1.month);
  },
  λ late. record {
    holds = (p + (d - 1), in_month a p 12 (y -ℤ pos 1) (m -ℤ pos 1) new.december (in_december (y -ℤ pos 1)) most (omega (arith, ints, e)), omega (arith, new.passed, most));
    greatest = λ k at. by_lt_z k m (λ less. omega (arith, ints, less)) (λ least.
        let same : k ≡ m = omega (arith, ints, least, e, number, month_numbers-rise at.0 (b + i) at.2, at.1.month) in
        absurd (omega (arith, late, at.2, one_later a at.0 (b + (d - 1)) m (subst (λ z. IsMonthsLater a z at.0) same at.1) january)));
  },
)
  where
    d : ℕ
    d = day_of_month_at a

    january : IsMonthsLater a m (b + (day_of_month_at a - 1))
    january = in_month a b 1 y m new.january (in_january y) most (omega (arith, ints, e))

    number : month_number_at (b + i) ≡ y *ℤ pos 12
    number = omega (arith, ints, number_from (b + i) y 1 (i + 1) (days-follow y 1 b i new.january (omega (arith, low, in_january y))))

least_past : (p b : ℕ) (y : ℤ) → IsNewYear p b y → (a i : ℕ) (m : ℤ) → i < 31 → day_of_month_at a ≤ 31 → month_number_at a +ℤ m ≡ y *ℤ pos 12 -ℤ pos 1
    → (i + 1 ≤ day_of_month_at a → IsLeast (IsBackTo a (p + i)) m) × (day_of_month_at a < i + 1 → IsLeast (IsBackTo a (p + i)) (m +ℤ pos 1))
least_past p b y new a i m low most e = (
  λ late. record {
    holds = (p + (d - 1), december, omega (arith, late));
    least = λ k at. omega (arith, ints, e, number, month_numbers-rise (p + i) at.0 at.2, at.1.month);
  },
  λ early. record {
    holds = (b + (d - 1), in_month a b 1 y (m +ℤ pos 1) new.january (in_january y) most (omega (arith, ints, e)), omega (arith, new.passed, low));
    least = λ k at. by_lt_z m k (λ more. omega (arith, ints, more)) (λ least.
        let same : k ≡ m = omega (arith, ints, least, e, number, month_numbers-rise (p + i) at.0 at.2, at.1.month) in
        absurd (omega (arith, early, at.2, (day_of_month_at-range a).0, one_later a at.0 (p + (d - 1)) m (subst (λ z. IsMonthsLater a z at.0) same at.1) december)));
  },
)
  where
    d : ℕ
    d = day_of_month_at a

    december : IsMonthsLater a m (p + (day_of_month_at a - 1))
    december = in_month a p 12 (y -ℤ pos 1) m new.december (in_december (y -ℤ pos 1)) most (omega (arith, ints, e))

    number : month_number_at (p + i) ≡ y *ℤ pos 12 -ℤ pos 1
    number = omega (arith, ints, number_from (p + i) (y -ℤ pos 1) 12 (i + 1) (days-follow (y -ℤ pos 1) 12 p i new.december (omega (arith, low, in_december (y -ℤ pos 1)))))

-- ---- the new years around the range
same_day : (m n d : ℕ) (y : ℤ) (i : ℕ) → HasCalendarDate y i d m → HasCalendarDate y i d n → m ≡ n
same_day m n d y i a b = let e = a ∙ sym b in one_day m n (record { year = ap (λ c. c.year) e; month = ap (λ c. c.month) e }) (ap (λ c. c.day) e)

new_year : (p : ℕ) (y z : ℤ) → HasCalendarDate y 12 1 p → z ≡ y +ℤ pos 1 → IsNewYear p (p + 31) z
new_year p y z first e =
    let long = in_december y in
    record {
      passed = refl;
      december = subst (λ x. HasCalendarDate x 12 1 p) (omega (arith, ints, e)) first;
      january = subst (λ x. HasCalendarDate x 1 1 (p + 31)) (sym e) (subst (λ k. HasCalendarDate (y +ℤ pos 1) 1 1 (p + k)) long (year-next y p first));
    }

after_range : IsNewYear (last_day - 30) (last_day + 1) (last_year +ℤ pos 1)
after_range =
    let december = day_with last_year 12 1 (omega (arith, ints), omega (arith, ints)) (omega arith, omega arith) (omega arith, omega (arith, in_december last_year)) in
    let long = in_december last_year in
    let end = subst (λ k. HasCalendarDate last_year 12 k (december.day + (k - 1))) long (last_of last_year 12 december.day december.has) in
    let same : december.day + 30 ≡ last_day = same_day (december.day + 30) last_day 31 last_year 12 end day_at-last in
    subst (λ p. IsNewYear p (last_day + 1) (last_year +ℤ pos 1)) (omega (arith, same))
    (subst (λ b. IsNewYear december.day b (last_year +ℤ pos 1)) (omega (arith, same)) (new_year december.day last_year (last_year +ℤ pos 1) december.has refl))

before_range : IsNewYear 146066 146097 (first_year +ℤ pos 400)
before_range =
    let y = first_year +ℤ pos 399 in
    let december = day_with y 12 1 (omega (arith, ints), omega (arith, ints)) (omega arith, omega arith) (omega arith, omega (arith, in_december y)) in
    let new = new_year december.day y (first_year +ℤ pos 400) december.has (omega (arith, ints)) in
    let first : HasCalendarDate (first_year +ℤ pos 400) 1 1 146097 = day_at-period 0 ∙ ap (λ (c : CalendarDay). calendar_day (c.year +ℤ pos 400) c.month c.day) day_at-first in
    let same : december.day + 31 ≡ 146097 = same_day (december.day + 31) 146097 1 (first_year +ℤ pos 400) 1 new.january first in
    subst (λ p. IsNewYear p 146097 (first_year +ℤ pos 400)) (omega (arith, same)) (subst (λ b. IsNewYear december.day b (first_year +ℤ pos 400)) same new)

-- ---- a day shortly after or before the range
pub months_after : (n i : ℕ) (m : ℤ) → IsDate n → i < 31 → day_of_month_at n ≤ 31 → month_number_at n +ℤ m ≡ (last_year +ℤ pos 1) *ℤ pos 12
    → (day_of_month_at n ≤ i + 1 → AreMonths (n + 146097) (last_day + 1 + i + 146097) m)
    × (i + 1 < day_of_month_at n → AreMonths (n + 146097) (last_day + 1 + i + 146097) (m -ℤ pos 1))
unfolding AreMonths
months_after n i m date low most e =
    let before = month_numbers-rise n last_day date in
    let end = number_from last_day last_year 12 31 day_at-last in
    let past = greatest_past (last_day - 30) (last_day + 1) (last_year +ℤ pos 1) after_range n i m low most e in (
      λ early. (λ _. up_shift n (last_day + 1 + i) m (omega (arith, ints, before, end, e)) (past.0 early), λ h. absurd (omega (arith, h, date))),
      λ late. (λ _. up_shift n (last_day + 1 + i) (m -ℤ pos 1) (omega (arith, ints, before, end, e)) (past.1 late), λ h. absurd (omega (arith, h, date))),
    )

pub months_before : (n i : ℕ) (m : ℤ) → i < 31 → day_of_month_at n ≤ 31 → month_number_at n +ℤ m ≡ first_year *ℤ pos 12 -ℤ pos 1
    → (i + 1 ≤ day_of_month_at n → AreMonths (n + 146097) (146066 + i) m) × (day_of_month_at n < i + 1 → AreMonths (n + 146097) (146066 + i) (m +ℤ pos 1))
unfolding AreMonths
months_before n i m low most e =
    let same = day_later n in
    let past = least_past 146066 146097 (first_year +ℤ pos 400) before_range (n + 146097) i m low (omega (arith, same, most)) (omega (arith, ints, number_later n, e)) in (
      λ late. (λ h. absurd (omega (arith, h, low)), λ _. past.0 (omega (arith, same, late))),
      λ early. (λ h. absurd (omega (arith, h, low)), λ _. past.1 (omega (arith, same, early))),
    )

-- the same by what lies past the range
pub past_after : (n : ℕ) (past m z : ℤ) → IsDate n → day_of_month_at n ≤ 31 → pos 0 <ℤ past → past ≤ℤ pos 3 → month_number_at n +ℤ m ≡ (last_year +ℤ pos 1) *ℤ pos 12
    → ((pos (day_of_month_at n) ≤ℤ past) × (z ≡ m)) ⊎ ((past <ℤ pos (day_of_month_at n)) × (z ≡ m -ℤ pos 1)) → AreMonths (n + 146097) (number_of (pos last_day +ℤ past)) z
past_after n past m z date most some few e how =
    let i = unsigned_abs past - 1 in
    let months = months_after n i m date (omega (arith, ints, some, few)) most e in
    let same : last_day + 1 + i + 146097 ≡ number_of (pos last_day +ℤ past) = omega (arith, ints, some) in
    subst (λ t. AreMonths (n + 146097) t z) same (elim how as (λ _. AreMonths (n + 146097) (last_day + 1 + i + 146097) z) [
      | inl early ↦ subst (AreMonths (n + 146097) (last_day + 1 + i + 146097)) (sym early.1) (months.0 (omega (arith, ints, some, early.0)))
      | inr late ↦ subst (AreMonths (n + 146097) (last_day + 1 + i + 146097)) (sym late.1) (months.1 (omega (arith, ints, some, late.0)))
    ])

pub past_before : (n : ℕ) (past m z : ℤ) → day_of_month_at n ≤ 31 → past <ℤ pos 0 → neg_ℤ (pos 3) ≤ℤ past → month_number_at n +ℤ m ≡ first_year *ℤ pos 12 -ℤ pos 1
    → (((pos 32 +ℤ past) ≤ℤ pos (day_of_month_at n)) × (z ≡ m)) ⊎ ((pos (day_of_month_at n) <ℤ (pos 32 +ℤ past)) × (z ≡ m +ℤ pos 1)) → AreMonths (n + 146097) (number_of past) z
past_before n past m z most some few e how =
    let i = unsigned_abs (past +ℤ pos 31) in
    let months = months_before n i m (omega (arith, ints, some, few)) most e in
    let same : 146066 + i ≡ number_of past = omega (arith, ints, some, few) in
    subst (λ t. AreMonths (n + 146097) t z) same (elim how as (λ _. AreMonths (n + 146097) (146066 + i) z) [
      | inl late ↦ subst (AreMonths (n + 146097) (146066 + i)) (sym late.1) (months.0 (omega (arith, ints, some, few, late.0)))
      | inr early ↦ subst (AreMonths (n + 146097) (146066 + i)) (sym early.1) (months.1 (omega (arith, ints, some, few, early.0)))
    ])

-- ---- how far outside the range a day can be reached
within_days : (l z : ℤ) → IsDateTime l → neg_ℤ (pos 187_198_000_000_000) ≤ℤ (l +ℤ z) → (l +ℤ z) ≤ℤ pos (last_date_time + 187_198_000_000_000)
    → (neg_ℤ (pos 3) ≤ℤ (pos (date_at l) +ℤ whole_days z)) × ((pos (date_at l) +ℤ whole_days z) ≤ℤ pos (last_day + 3))
unfolding date_at
within_days l (pos n) h low high = (omega (arith, ints, h.not_before, h.not_after), omega (arith, ints, h.not_before, h.not_after, high))
within_days l (negsuc n) h low high = (omega (arith, ints, h.not_before, h.not_after, low), omega (arith, ints, h.not_before, h.not_after))

pub near : (from to : LocalAndOffset) → IsDateTime from.local → IsOffset from.offset → IsDateTime to.local → IsOffset to.offset
    → (neg_ℤ (pos 3) ≤ℤ reached from to) × (reached from to ≤ℤ pos (last_day + 3))
unfolding instant
near from to a b c d =
    within_days from.local (duration_between from to) a (omega (arith, ints, b.magnitude, c.not_before, d.magnitude)) (omega (arith, ints, b.magnitude, c.not_after, d.magnitude))

-- the day of the range that is nearest
pub clamp : (z : ℤ) → (pos (clamped_date z) <ℤ z → clamped_date z ≡ last_day) × (z <ℤ pos (clamped_date z) → clamped_date z ≡ 0)
    × (neg_ℤ (pos 3) ≤ℤ z → neg_ℤ (pos 3) ≤ℤ (z -ℤ pos (clamped_date z))) × (z ≤ℤ pos (last_day + 3) → (z -ℤ pos (clamped_date z)) ≤ℤ pos 3)
clamp z = (λ h. omega (arith, ints, clamps, h), λ h. omega (arith, ints, clamps, h), λ h. omega (arith, ints, clamps, h), λ h. omega (arith, ints, clamps, h))

pub months_reached : (n d : ℕ) (r s z m : ℤ) → d ≡ n → r ≡ s → z ≡ m → AreMonths (d + 146097) (number_of s) m → AreMonths (n + 146097) (number_of r) z
months_reached n d r s z m e f g h =
    subst (λ k. AreMonths (k + 146097) (number_of r) z) e (subst (λ t. AreMonths (d + 146097) (number_of t) z) (sym f) (subst (AreMonths (d + 146097) (number_of s)) (sym g) h))

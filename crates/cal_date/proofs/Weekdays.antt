-- The weekday of a day by a remainder, and the number of days with a weekday at the start of a
-- year.
use Rattle.std.proofs.Common.{◌≡◌, ℕ, zero, suc, ◌+◌, ◌-◌, ◌*◌, ◌/◌, ◌%◌, ◌^◌, ◌<◌, ◌≤◌, refl, sym, ap, ◌∙◌, arith, ℤ, pos, ◌+ℤ◌, ◌-ℤ◌, ◌≤ℤ◌, unsigned_abs, Bool, false, add-zero, inl, inr, lit<}
use Rattle.std.specs.Prelude.{if◌then◌else◌, ◌==◌}
use Rattle.std.specs.Ordering.{int_eq}
use Rattle.std.proofs.lemmas.Bool.{cases_Bool}
use Rattle.std.proofs.lemmas.Int.{ints}
use Rattle.std.proofs.lemmas.Bool.Decides.{nat_tests, Decides-int_eq}
use Rattle.cal_units.specs.Lengths.{days_in_year}
use Rattle.cal_units.specs.Weekday.{index, days_from_sunday}
use Rattle.cal_units.specs.declared.weekday.Weekday.{Weekday}
use Rattle.cal_units.specs.declared.weekday.Weekday.TheVariants.{Monday, Tuesday, Wednesday, Thursday, Friday, Saturday, Sunday}
use Rattle.cal_units.specs.Weeks.{first_weekday, weeks_in_year}
use Rattle.cal_units.proofs.Weeks.{first_weekday-next, first_weekday-is, weeks_in_year-is}
use Rattle.cal_date.specs.Date.{first_year, last_day, year_at, ordinal_at, weekday_at, IsYear}
use Rattle.cal_date.specs.CountLaws.{days_of_years, days_before, in_year, year_start-days_before, days_of_years-suc}
use Rattle.cal_date.specs.IsoWeekDate.{count_before, is_weekday_of_year, weekday_count}
use Rattle.cal_date.proofs.Years.{days_before-IsYear}
use Rattle.cal_date.proofs.Dates.{StandsAt, stands, ordinal-most, IsYear-i32}

pub weekday_at-is : (n : ℕ) → weekday_at n ≡ n % 7
unfolding weekday_at
weekday_at-is zero = refl
weekday_at-is (suc n) = let before : weekday_at n ≡ n % 7 = weekday_at-is n in omega arith

-- 1 January of each year of the range, by both counts.
first_weekday-count : (k : ℕ) → first_weekday (first_year +ℤ pos k) ≡ days_of_years k % 7
first_weekday-count zero =
    let k = unsigned_abs first_year in
    first_weekday-is (first_year +ℤ pos 0) k (400 * k - (k + 1)) (omega (arith, ints)) ∙ (unfold days_of_years in refl)
first_weekday-count (suc k) =
    let before = first_weekday-count k in
    let next = first_weekday-next (first_year +ℤ pos k) in
    let same : (first_year +ℤ pos k) +ℤ pos 1 ≡ first_year +ℤ pos (suc k) = omega (arith, ints) in
    let step = days_of_years-suc k in
    ap first_weekday (sym same) ∙ next ∙ omega arith

pub first_weekday-days_before : (y : ℤ) → first_year ≤ℤ y → first_weekday y ≡ days_before y % 7
first_weekday-days_before y h =
    let k = unsigned_abs (y -ℤ first_year) in
    let same : first_year +ℤ pos k ≡ y = omega (arith, ints) in
    ap first_weekday (sym same) ∙ first_weekday-count k

-- Counts.
pub count_before-suc : (test : ℕ → Bool) (n : ℕ) → count_before test (suc n) ≡ count_before test n + (if test n then 1 else 0)
unfolding count_before
count_before-suc test n = refl

count_before-none : (test : ℕ → Bool) (n : ℕ) → ((k : ℕ) → k < n → test k ≡ false) → count_before test n ≡ 0
unfolding count_before
count_before-none test zero none = refl
count_before-none test (suc n) none =
    let before : count_before test n ≡ 0 = count_before-none test n (λ k h. none k (omega arith)) in
    rw (none n (omega arith)) (omega arith)

-- If no further day passes the test, the count stays.
pub count_before-same : (test : ℕ → Bool) (n j : ℕ) → ((k : ℕ) → n ≤ k → test k ≡ false) → count_before test (n + j) ≡ count_before test n
count_before-same test n zero none = simp add-zero
count_before-same test n (suc j) none =
    let sums : n + suc j ≡ suc (n + j) = omega arith in
    let step : count_before test (suc (n + j)) ≡ count_before test (n + j) + 0 = count_before-suc test (n + j) ∙ rw (none (n + j) (omega arith)) refl in
    ap (count_before test) sums ∙ step ∙ omega (arith, count_before-same test n j none)

-- Days of other years don't count.
other_year : (w : ℕ) (y : ℤ) (n : ℕ) → ¬ (year_at n ≡ y) → is_weekday_of_year w y n ≡ false
other_year w y n other =
    elim (cases_Bool (int_eq (year_at n) y)) [
      | inl same ↦ absurd (other ((Decides-int_eq (year_at n) y).0 same))
      | inr not ↦ rw not refl
    ]

this_year : (w : ℕ) (y : ℤ) (n : ℕ) → year_at n ≡ y → is_weekday_of_year w y n ≡ (n % 7 == w)
this_year w y n same = rw ((Decides-int_eq (year_at n) y).1 same, weekday_at-is n) refl

before_year : (w : ℕ) (y : ℤ) (n : ℕ) → n < days_before y → is_weekday_of_year w y n ≡ false
before_year w y n h = other_year w y n (λ same. let at : StandsAt y (ordinal_at n) n = rw same at (stands n) in omega (arith, at.number_is))

after_year : (w : ℕ) (y : ℤ) (n : ℕ) → days_before y + days_in_year y ≤ n → is_weekday_of_year w y n ≡ false
after_year w y n h = other_year w y n (λ same. let at : StandsAt y (ordinal_at n) n = rw same at (stands n) in omega (arith, at.number_is, at.ordinal))

one_more : (c' c d j w : ℕ) → w < 7 → c' ≡ c + (if (d + j) % 7 == w then 1 else 0) → c + (d + 6 - w) / 7 ≡ (d + j + 6 - w) / 7 → c' + (d + 6 - w) / 7 ≡ (d + suc j + 6 - w) / 7
one_more c' c d j w below e f = grind (arith, nat_tests)

-- The days that pass the test are those with the weekday among the days from the first to the last.
pub record IsSpan (test : ℕ → Bool) (w first last : ℕ) : Type 0 where
  pub before : (k : ℕ) → k < first → test k ≡ false
  pub within : (k : ℕ) → first ≤ k → k ≤ last → test k ≡ (k % 7 == w)
  pub past : (k : ℕ) → last < k → test k ≡ false

-- The number of days with the weekday among the first days of a span.
pub count_in_span : (test : ℕ → Bool) (w f l j : ℕ) → IsSpan test w f l → w < 7 → f + j ≤ l + 1 → count_before test (f + j) + (f + 6 - w) / 7 ≡ (f + j + 6 - w) / 7
count_in_span test w f l zero span below within =
    let none : count_before test f ≡ 0 = count_before-none test f span.before in
    simp add-zero (omega arith)
count_in_span test w f l (suc j) span below within =
    let before : count_before test (f + j) + (f + 6 - w) / 7 ≡ (f + j + 6 - w) / 7 = count_in_span test w f l j span below (omega arith) in
    let step : count_before test (suc (f + j)) ≡ count_before test (f + j) + (if (f + j) % 7 == w then 1 else 0) =
    count_before-suc test (f + j) ∙ rw (span.within (f + j) (omega arith) (omega arith)) refl in
    let sums : f + suc j ≡ suc (f + j) = omega arith in
    ap (λ n. count_before test n + (f + 6 - w) / 7) sums ∙ one_more (count_before test (suc (f + j))) (count_before test (f + j)) f j w below step before

-- The number of days with the weekday among the first days of a year.
pub count_in_year : (y : ℤ) (w j : ℕ) → first_year ≤ℤ y → w < 7 → j ≤ days_in_year y
    → count_before (is_weekday_of_year w y) (days_before y + j) + (days_before y + 6 - w) / 7 ≡ (days_before y + j + 6 - w) / 7
count_in_year y w j h below most =
    let d = days_before y in
    let long : 365 ≤ days_in_year y = grind (arith, nat_tests) in
    let span : IsSpan (is_weekday_of_year w y) w d (d + days_in_year y - 1) = record {
      before = before_year w y;
      within = λ k low high.
          let sums : d + (k - d) ≡ k = omega arith in
          this_year w y k (ap year_at (sym sums) ∙ (in_year d y (k - d) (year_start-days_before y h) (omega arith)).0);
      past = λ k late. after_year w y k (omega arith);
    } in
    count_in_span (is_weekday_of_year w y) w d (d + days_in_year y - 1) j span below (omega arith)

-- The number of days with the weekday up to a day of its year.
pub weekday_count-is : (w n : ℕ) → w < 7 → weekday_count w n + (days_before (year_at n) + 6 - w) / 7 ≡ (n + 7 - w) / 7
weekday_count-is w n below =
    let at = stands n in
    let d = days_before (year_at n) in
    let count = count_in_year (year_at n) w (ordinal_at n) at.year below at.ordinal.1 in
    let sums : d + ordinal_at n ≡ n + 1 = omega (arith, at.number_is, at.ordinal.0) in
    rw sums at count ∙ ap (λ k. k / 7) (omega arith)

-- The same from the ordinal and the days since the last day with the weekday.
pub weekday_count-ordinal : (w since n : ℕ) → w < 7 → since < 7 → (since + w) % 7 ≡ n % 7 → (ordinal_at n + 6 - since) / 7 ≡ weekday_count w n
weekday_count-ordinal w since n below small index =
    let at = stands n in
    let count = weekday_count-is w n below in
    let number : n ≡ days_before (year_at n) + (ordinal_at n - 1) = at.number_is in
    let low : 1 ≤ ordinal_at n = at.ordinal.0 in
    omega arith

pub days_from_sunday-index : (w : Weekday) → days_from_sunday w ≡ (index w + 1) % 7
days_from_sunday-index Monday = refl
days_from_sunday-index Tuesday = refl
days_from_sunday-index Wednesday = refl
days_from_sunday-index Thursday = refl
days_from_sunday-index Friday = refl
days_from_sunday-index Saturday = refl
days_from_sunday-index Sunday = refl

-- The number of weeks of a year, from the days before the year.
pub weeks_in_year-days_before : (y : ℤ) → first_year ≤ℤ y → weeks_in_year y + (days_before y + 3) / 7 ≡ (days_before y + days_in_year y + 3) / 7
weeks_in_year-days_before y h =
    let first = first_weekday-days_before y h in
    let next = first_weekday-next y in
    let weeks = weeks_in_year-is y in
    grind (arith, nat_tests)

-- The number of weeks is the number of Thursdays of the year in the count of all days.
pub weeks_in_year-count : (y : ℤ) → IsYear y → weeks_in_year y ≡ count_before (is_weekday_of_year 3 y) (last_day + 1)
weeks_in_year-count y h =
    let d = days_before y in
    let test = is_weekday_of_year 3 y in
    let most : d + days_in_year y ≤ last_day + 1 = days_before-IsYear y h in
    let rest = last_day + 1 - (d + days_in_year y) in
    let sums : d + days_in_year y + rest ≡ last_day + 1 = omega arith in
    let all : count_before test (d + days_in_year y + rest) ≡ count_before test (d + days_in_year y) =
    count_before-same test (d + days_in_year y) rest (after_year 3 y) in
    let count = count_in_year y 3 (days_in_year y) h.0 (lit< tt) (omega arith) in
    let weeks = weeks_in_year-days_before y h.0 in
    omega arith ∙ sym all ∙ ap (count_before test) sums

pub ruleset weeks_begun = (ordinal-most, weekday_at-is, weekday_count-ordinal, days_from_sunday-index, ints, nat_tests)

pub ruleset weeks_of_years = (IsYear-i32, weeks_in_year-count, ints, nat_tests)

-- The days of a week that has begun, from the fraction of it that has passed, times 2^32.
part_of_week : (n : ℕ) → n < 2 ^ 30 → (n * 613_566_757) % 2 ^ 32 ≡ 3 * (n / 7) + 613_566_757 * (n % 7)
part_of_week n h = omega arith

days_of_part : (p q r : ℕ) → p ≡ 3 * q + 613_566_757 * r → q < 2 ^ 28 → r < 7 → 21 * q < 2 ^ 32 - 100 → (p - p / 8) / 2 ^ 29 ≡ r
days_of_part p q r e hq hr fits = omega arith

pub days_into_week : (n : ℕ) → n < 2 ^ 30 → ((n * 613_566_757) % 2 ^ 32 - (n * 613_566_757) % 2 ^ 32 / 8) / 2 ^ 29 ≡ n % 7
days_into_week n h = days_of_part _ (n / 7) (n % 7) (part_of_week n h) (omega arith) (omega arith) (omega arith)

pub ruleset remainders = (days_into_week, weekday_at-is, nat_tests)

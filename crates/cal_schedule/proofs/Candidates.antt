-- The days between a day and the next one that the days of the year or of the month allow.
use Rattle.std.proofs.Common.{◌≡◌, ℕ, ◌+◌, ◌-◌, ◌<◌, ◌≤◌, sym, ap, ◌∙◌, arith, ℤ, Bool, true, false, inl, inr, List, [], ◌∷◌, length}
use Rattle.std.specs.Prelude.{◌==◌, ◌&&◌, if◌then◌else◌}
use Rattle.std.specs.List.{list_any}
use Rattle.std.proofs.lemmas.Bool.{and_parts, cases_lt, false_from_ne_true, false≢true}
use Rattle.std.proofs.lemmas.Int.{ints}
use Rattle.cal_time.specs.Components.{ordinals-apart}
use Rattle.cal_time.specs.Date.{year_at, month_at, day_of_month_at, ordinal_at, weekday_at, IsDate}
use Rattle.cal_time.specs.Days.{day_of_month_at-range}
use Rattle.cal_time.specs.Lengths.{days_in_month, days_in_year}
use Rattle.cal_schedule.specs.Months.{month_number_at}
use Rattle.cal_schedule.specs.Rule.{allows, is_empty, is_month_day, is_nth, is_year_day, is_yearly, matches_by_day, matches_days, matches_months, matches_weeks, passes}
use Rattle.cal_schedule.specs.RuleSearch.{may_fall_on}
use Rattle.cal_schedule.specs.WeekdaysLaws.{within_months}
use Rattle.cal_schedule.specs.declared.rule.rule.Rule.{Rule}
use Rattle.cal_schedule.proofs.MonthMoves.{days_apart}
use Rattle.cal_schedule.proofs.RuleNumbers.{month_of, year_of}
use Rattle.cal_schedule.proofs.Rules.{off_weekday}

-- ---- a later day of the year, and of the month
in_year : (n d : ℕ) → IsDate n → ordinal_at n + d ≤ days_in_year (year_at n) → (year_at (n + d) ≡ year_at n) × (ordinal_at (n + d) ≡ ordinal_at n + d)
in_year n d h less =
    let its = year_of n h in
    let within = within_months (year_at n) 1 12 its.first its.last (n + d) its.begins its.ends (omega (arith, its.first_most)) (omega (arith, its.left, less)) in
    (within.year, omega (arith, ordinals-apart n (n + d) (sym within.year)))

in_month : (n d : ℕ) → IsDate n → day_of_month_at n + d ≤ days_in_month (year_at n) (month_at n)
    → (year_at (n + d) ≡ year_at n) × (month_at (n + d) ≡ month_at n) × (day_of_month_at (n + d) ≡ day_of_month_at n + d)
in_month n d h less =
    let its = month_of n h in
    let within = within_months (year_at n) (month_at n) (month_at n) its.first its.last (n + d) its.begins its.ends (omega (arith, its.place, (day_of_month_at-range n).0)) (omega (arith, its.left, less)) in
    let month : month_at (n + d) ≡ month_at n = omega (arith, within.least, within.most) in
    let same : month_number_at n ≡ month_number_at (n + d) = omega (arith, ints, within.year, month) in
    (within.year, month, omega (arith, days_apart n (n + d) h same))

year_day : (n d : ℕ) (numbers : List ℤ) → IsDate n → ordinal_at n + d ≤ days_in_year (year_at n)
    → list_any (is_year_day (n + d)) numbers ≡ list_any (λ k. is_nth k (ordinal_at n + d) (days_in_year (year_at n) + 1 - (ordinal_at n + d))) numbers
unfolding is_year_day
year_day n d numbers h less =
    let at = in_year n d h less in
    ap (λ o. list_any (λ k. is_nth k o (days_in_year (year_at (n + d)) + 1 - o)) numbers) at.1
    ∙ ap (λ y. list_any (λ k. is_nth k (ordinal_at n + d) (days_in_year y + 1 - (ordinal_at n + d))) numbers) at.0

month_day : (n d : ℕ) (numbers : List ℤ) → IsDate n → day_of_month_at n + d ≤ days_in_month (year_at n) (month_at n)
    → list_any (is_month_day (n + d)) numbers ≡ list_any (λ k. is_nth k (day_of_month_at n + d) (days_in_month (year_at n) (month_at n) + 1 - (day_of_month_at n + d))) numbers
unfolding is_month_day
month_day n d numbers h less =
    let at = in_month n d h less in
    ap (λ o. list_any (λ k. is_nth k o (days_in_month (year_at (n + d)) (month_at (n + d)) + 1 - o)) numbers) at.2
    ∙ ap (λ y. list_any (λ k. is_nth k (day_of_month_at n + d) (days_in_month y (month_at (n + d)) + 1 - (day_of_month_at n + d))) numbers) at.0
    ∙ ap (λ m. list_any (λ k. is_nth k (day_of_month_at n + d) (days_in_month (year_at n) m + 1 - (day_of_month_at n + d))) numbers) at.1

-- No day after day n and before the day d days later passes the test.
abbrev pub NoneNext : (ℕ → Bool) → ℕ → ℕ → Type 0
NoneNext test n d = (k : ℕ) → n < k → k < n + d → test k ≡ false

one-more : (test : ℕ → Bool) (n d : ℕ) → NoneNext test n d → test (n + d) ≡ false → NoneNext test n (d + 1)
one-more test n d none off k low high = elim (cases_lt k (n + d)) as (λ _. test k ≡ false) [
  | inl before ↦ none k low before
  | inr most ↦ let e : n + d ≡ k = omega arith in ap test (sym e) ∙ off
]

pub year_further : (n d back : ℕ) (numbers : List ℤ) → IsDate n → ordinal_at n + d ≤ days_in_year (year_at n) → back ≡ days_in_year (year_at n) + 1 - (ordinal_at n + d)
    → list_any (λ k. is_nth k (ordinal_at n + d) back) numbers ≡ false → NoneNext (λ k. list_any (is_year_day k) numbers) n d → NoneNext (λ k. list_any (is_year_day k) numbers) n (d + 1)
year_further n d back numbers h less e off none =
    one-more (λ k. list_any (is_year_day k) numbers) n d none
    (year_day n d numbers h less ∙ ap (λ b. list_any (λ k. is_nth k (ordinal_at n + d) b) numbers) (sym e) ∙ off)

pub month_further : (n d back : ℕ) (numbers : List ℤ) → IsDate n → day_of_month_at n + d ≤ days_in_month (year_at n) (month_at n)
    → back ≡ days_in_month (year_at n) (month_at n) + 1 - (day_of_month_at n + d)
    → list_any (λ k. is_nth k (day_of_month_at n + d) back) numbers ≡ false → NoneNext (λ k. list_any (is_month_day k) numbers) n d → NoneNext (λ k. list_any (is_month_day k) numbers) n (d + 1)
month_further n d back numbers h less e off none =
    one-more (λ k. list_any (is_month_day k) numbers) n d none
    (month_day n d numbers h less ∙ ap (λ b. list_any (λ k. is_nth k (day_of_month_at n + d) b) numbers) (sym e) ∙ off)

-- ---- a day that a list doesn't allow
some-years : {X Y Z : Type 0} (a : Bool) (o : Z → Bool) (p : X → Bool) (q : Y → Bool) (zs : List Z) (xs : List X) (ys : List Y) → (length zs == 0) ≡ false
    → (if is_empty zs && (is_empty xs && is_empty ys) then a else allows o zs && (allows p xs && allows q ys)) ≡ true → list_any o zs ≡ true
some-years a o p q [] xs ys some e = absurd (false≢true (sym some))
some-years a o p q (z ∷ zs) xs ys some e = (and_parts _ _ e).0

some-months : {X Y Z : Type 0} (a : Bool) (o : Z → Bool) (p : X → Bool) (q : Y → Bool) (zs : List Z) (xs : List X) (ys : List Y) → (length xs == 0) ≡ false
    → (if is_empty zs && (is_empty xs && is_empty ys) then a else allows o zs && (allows p xs && allows q ys)) ≡ true → list_any p xs ≡ true
some-months a o p q zs [] ys some e = absurd (false≢true (sym some))
some-months a o p q [] (x ∷ xs) ys some e = (and_parts _ _ e).0
some-months a o p q (z ∷ zs) (x ∷ xs) ys some e = (and_parts _ _ (and_parts _ _ e).1).0

off-days : (rule : Rule) (k : ℕ) → matches_days rule k ≡ false → passes rule k ≡ false
unfolding passes
off-days rule k off = false_from_ne_true _ (λ on. false≢true (sym off ∙ (and_parts _ _ (and_parts _ _ on).1).1))

off-year_days : (rule : Rule) (k : ℕ) → (length rule.pattern.year_days == 0) ≡ false → list_any (is_year_day k) rule.pattern.year_days ≡ false → matches_days rule k ≡ false
unfolding matches_days
off-year_days rule k some off = false_from_ne_true _ (λ on. false≢true (sym off ∙
    some-years _ (is_year_day k) (is_month_day k) (matches_by_day (is_yearly rule.pattern.frequency && is_empty rule.pattern.months) k)
    rule.pattern.year_days rule.pattern.month_days rule.pattern.weekdays some on))

off-month_days : (rule : Rule) (k : ℕ) → (length rule.pattern.month_days == 0) ≡ false → list_any (is_month_day k) rule.pattern.month_days ≡ false → matches_days rule k ≡ false
unfolding matches_days
off-month_days rule k some off = false_from_ne_true _ (λ on. false≢true (sym off ∙
    some-months _ (is_year_day k) (is_month_day k) (matches_by_day (is_yearly rule.pattern.frequency && is_empty rule.pattern.months) k)
    rule.pattern.year_days rule.pattern.month_days rule.pattern.weekdays some on))

pub by_year_days : (rule : Rule) (n d : ℕ) → (length rule.pattern.year_days == 0) ≡ false → NoneNext (λ k. list_any (is_year_day k) rule.pattern.year_days) n d → NoneNext (passes rule) n d
by_year_days rule n d some none k low high = off-days rule k (off-year_days rule k some (none k low high))

pub by_month_days : (rule : Rule) (n d : ℕ) → (length rule.pattern.month_days == 0) ≡ false → NoneNext (λ k. list_any (is_month_day k) rule.pattern.month_days) n d → NoneNext (passes rule) n d
by_month_days rule n d some none k low high = off-days rule k (off-month_days rule k some (none k low high))

pub by_weekdays : (rule : Rule) (n d : ℕ) → NoneNext (λ k. may_fall_on rule (weekday_at k)) n d → NoneNext (passes rule) n d
by_weekdays rule n d none k low high = off_weekday rule k (none k low high)

pub ruleset skips = (by_year_days, by_month_days, by_weekdays)

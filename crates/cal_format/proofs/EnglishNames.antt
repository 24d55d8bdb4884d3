-- Months and weekdays by their names.
use Rattle.std.proofs.Common.{◌≡◌, ℕ, ◌-◌, ◌<◌, ◌≤◌, List, ◌∷◌, ◌++◌, [], length, take, drop, refl, sym, ap, ◌∙◌, arith, inr, lit<, lit≤}
use Rattle.std.specs.Prelude.{◌==◌, if◌then◌else◌, nat_lt, codes, bytes_eq, Bool, true, false}
use Rattle.std.proofs.lemmas.List.{take_all}
use Rattle.std.proofs.lemmas.Slice.Eq.{bytes_eq-Decides}
use Rattle.cal_time.specs.declared.Month.{Month}
use Rattle.cal_time.specs.declared.Month.TheVariants.{January}
use Rattle.cal_time.specs.declared.Weekday.{Weekday}
use Rattle.cal_time.specs.declared.Weekday.TheVariants.{Monday}
use Rattle.cal_time.specs.Month as month
use Rattle.cal_time.specs.Weekday as weekday
use Rattle.cal_time.specs.MonthCycle.{month_of_index-index}
use Rattle.cal_time.specs.Time.{hour_of}
use Rattle.cal_format.specs.declared.item.Name.{Name}
use Rattle.cal_format.specs.declared.item.Name.TheVariants as name
use Rattle.cal_format.specs.declared.moment.Moment.{Moment}
use Rattle.cal_format.specs.Form.{numbered_name}
use Rattle.cal_format.specs.Names.{short_month, short_weekday, month_of, weekday_of, name_text}
use Rattle.cal_format.proofs.Ends.{BeginsApart, BeginsPastPoint}

-- ---- the month of a day
pub same-month : (m : Month) (k : ℕ) → month.number m ≡ k → month.month_of_index (k - 1) ≡ m
same-month m k e = ap month.month_of_index (let f : k - 1 ≡ month.index m = omega (arith, e) in f) ∙ month_of_index-index m

-- The first three bytes are the letters of a month.
pub front-month : (m : Month) (k : ℕ) (old : List ℕ) → month.number m ≡ k → 3 ≤ length old → true ≡ bytes_eq (take 3 (month.name m)) (take 3 old)
    → old ≡ short_month (month.month_of_index (k - 1)) ++ take (length old - 3) (drop 3 old)
front-month m k (a ∷ b ∷ c ∷ rest) e long same =
    let letters : short_month m ≡ a ∷ b ∷ c ∷ [] = (bytes_eq-Decides (take 3 (month.name m)) (a ∷ b ∷ c ∷ [])).0 (sym same) in
    sym (ap (λ l. l ++ take (length (a ∷ b ∷ c ∷ rest) - 3) rest) (ap short_month (same-month m k e) ∙ letters) ∙ ap (λ l. a ∷ b ∷ c ∷ l) (take_all (length (a ∷ b ∷ c ∷ rest) - 3) rest (omega arith)))
front-month m k _ e long same = absurd (omega (arith, long))

-- ---- lengths
pub length-short_month : (m : Month) → length (short_month m) ≡ 3
length-short_month January = refl
length-short_month _ = refl

pub length-short_weekday : (w : Weekday) → length (short_weekday w) ≡ 3
length-short_weekday Monday = refl
length-short_weekday _ = refl

pub month-long : (m : Month) → 3 ≤ length (month.name m)
month-long January = lit≤ tt
month-long _ = lit≤ tt

pub weekday-long : (w : Weekday) → 3 ≤ length (weekday.name w)
weekday-long Monday = lit≤ tt
weekday-long _ = lit≤ tt

pub ruleset long_names = (month-long, weekday-long)

month-short : (m : Month) → length (month.name m) ≤ 9
month-short January = lit≤ tt
month-short _ = lit≤ tt

weekday-short : (w : Weekday) → length (weekday.name w) ≤ 9
weekday-short Monday = lit≤ tt
weekday-short _ = lit≤ tt

period-length : (b : Bool) (am pm : List ℕ) → length am ≡ 2 → length pm ≡ 2 → length (if b then am else pm) ≡ 2
period-length true am pm e f = e
period-length false am pm e f = f

pub length-period : (v : Moment) → length (name_text name.Period v) ≡ 2
length-period v = period-length (nat_lt (hour_of v.time) 12) (codes "AM") (codes "PM") refl refl

length-lower_period : (v : Moment) → length (name_text name.LowerPeriod v) ≡ 2
length-lower_period v = period-length (nat_lt (hour_of v.time) 12) (codes "am") (codes "pm") refl refl

pub name-short : (k : Name) (v : Moment) → length (name_text k v) ≤ 9
name-short name.Month v = month-short (month_of v)
name-short name.MonthAlone v = month-short (month_of v)
name-short name.ShortMonth v = omega (arith, length-short_month (month_of v))
name-short name.Weekday v = weekday-short (weekday_of v)
name-short name.ShortWeekday v = omega (arith, length-short_weekday (weekday_of v))
name-short name.Period v = omega (arith, length-period v)
name-short name.LowerPeriod v = omega (arith, length-lower_period v)

-- ---- no name begins with a digit or a point
record BeginsWithLetter (text : List ℕ) : Type 0 where
  apart : BeginsApart text
  past : BeginsPastPoint text

letter : (x : ℕ) (rest : List ℕ) → 57 < x → BeginsWithLetter (x ∷ rest)
letter x rest h = record { apart = inr h; past = λ e. absurd (omega arith) }

month-letter : (m : Month) (rest : List ℕ) → BeginsWithLetter (month.name m ++ rest)
month-letter January rest = letter _ _ (lit< tt)
month-letter _ rest = letter _ _ (lit< tt)

short_month-letter : (m : Month) (rest : List ℕ) → BeginsWithLetter (short_month m ++ rest)
short_month-letter January rest = letter _ _ (lit< tt)
short_month-letter _ rest = letter _ _ (lit< tt)

weekday-letter : (w : Weekday) (rest : List ℕ) → BeginsWithLetter (weekday.name w ++ rest)
weekday-letter Monday rest = letter _ _ (lit< tt)
weekday-letter _ rest = letter _ _ (lit< tt)

short_weekday-letter : (w : Weekday) (rest : List ℕ) → BeginsWithLetter (short_weekday w ++ rest)
short_weekday-letter Monday rest = letter _ _ (lit< tt)
short_weekday-letter _ rest = letter _ _ (lit< tt)

period-letter : (b : Bool) (rest : List ℕ) → BeginsWithLetter ((if b then codes "AM" else codes "PM") ++ rest)
period-letter true rest = letter _ _ (lit< tt)
period-letter false rest = letter _ _ (lit< tt)

lower_period-letter : (b : Bool) (rest : List ℕ) → BeginsWithLetter ((if b then codes "am" else codes "pm") ++ rest)
lower_period-letter true rest = letter _ _ (lit< tt)
lower_period-letter false rest = letter _ _ (lit< tt)

name-letter : (k : Name) (n : ℕ) (rest : List ℕ) → BeginsWithLetter (numbered_name k n ++ rest)
name-letter name.Month n rest = month-letter (month.month_of_index (n - 1)) rest
name-letter name.MonthAlone n rest = month-letter (month.month_of_index (n - 1)) rest
name-letter name.ShortMonth n rest = short_month-letter (month.month_of_index (n - 1)) rest
name-letter name.Weekday n rest = weekday-letter (weekday.weekday_of_index (n - 1)) rest
name-letter name.ShortWeekday n rest = short_weekday-letter (weekday.weekday_of_index (n - 1)) rest
name-letter name.Period n rest = period-letter (n == 0) rest
name-letter name.LowerPeriod n rest = lower_period-letter (n == 0) rest

pub name-apart : (k : Name) (n : ℕ) (rest : List ℕ) → BeginsApart (numbered_name k n ++ rest)
name-apart k n rest = (name-letter k n rest).apart

pub name-past : (k : Name) (n : ℕ) (rest : List ℕ) → BeginsPastPoint (numbered_name k n ++ rest)
name-past k n rest = (name-letter k n rest).past

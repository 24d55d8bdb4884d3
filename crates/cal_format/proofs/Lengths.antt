-- How long the texts of formats are: each item prints at most 15 bytes.
use Rattle.std.proofs.Common.{ℕ, ◌+◌, ◌*◌, ◌-◌, ◌%◌, ◌<◌, ◌≤◌, List, [], ◌∷◌, length, replicate, refl, arith, lit≤, length-append}
use Rattle.std.specs.Prelude.{Bool, true, false, if◌then◌else◌, decimal, ℤ, pos, negsuc, unsigned_abs, int_lt, codes}
use Rattle.std.proofs.lemmas.Bool.Decides.{nat_tests}
use Rattle.std.proofs.lemmas.Fmt.{length-decimal-le}
use Rattle.std.proofs.lemmas.Int.{ints}
use Rattle.std.proofs.lemmas.List.{length-replicate}
use Rattle.cal_time.specs.Date.{year_at, month_at, ordinal_at, IsYear}
use Rattle.cal_time.specs.Laws.{weekday_at-is, length-decimals}
use Rattle.cal_time.specs.Time.{nanosecond_of}
use Rattle.cal_time.specs.Lengths.{days_in_month}
use Rattle.cal_time.specs.DateText.{sign_text}
use Rattle.cal_time.specs.Days.{month_at-range, day_of_month_at-range, year_at-range}
use Rattle.cal_time.specs.IsoWeekDate.{iso_week_at, iso_year_at, weekday_count}
use Rattle.cal_time.specs.UtcOffset.{sign as offset_sign}
use Rattle.cal_time.proofs.IsoWeeks.{week_of_thursday, IsYear-iso_year_at}
use Rattle.cal_time.proofs.Dates.{ordinal-most, stands}
use Rattle.cal_time.proofs.Weekdays.{weekday_count-ordinal}
use Rattle.cal_format.specs.declared.item.Component.{Component}
use Rattle.cal_format.specs.declared.item.Component.TheVariants.{Year, Century, IsoYear, Month, Day, Ordinal, IsoWeek, Weekday, DaysFromMonday, SundayWeek, MondayWeek, Hour, Period, OffsetHour, OffsetSign, Timestamp, TimestampSign}
use Rattle.cal_format.specs.declared.item.Item.{Item}
use Rattle.cal_format.specs.declared.item.Item.TheVariants as item
use Rattle.cal_format.specs.declared.item.Padding.{Padding}
use Rattle.cal_format.specs.declared.item.Padding.TheVariants as padding
use Rattle.cal_format.specs.declared.moment.Moment.{Moment}
use Rattle.cal_format.specs.Moment.{IsMoment, timestamp_of, number, width}
use Rattle.cal_format.specs.Text.{sign, or_plus, padded, item_text, text_in_zone, text_of}
use Rattle.cal_format.proofs.Digits.{width-most}
use Rattle.cal_format.proofs.EnglishNames.{name-short}
use Rattle.cal_format.proofs.Fractions.{length-fraction}

pub days_in_month-most : (y : ℤ) (m : ℕ) → days_in_month y m ≤ 31
unfolding days_in_month
days_in_month-most y m = grind (arith, nat_tests)

pub ordinal-least : (n : ℕ) → 1 ≤ ordinal_at n
ordinal-least n = (stands n).ordinal.0

pub week-range : (n : ℕ) → (1 ≤ iso_week_at n) × (iso_week_at n ≤ 53)
week-range n =
    let t = n - n % 7 + 3 in
    let week = (week_of_thursday n (year_at t) (ordinal_at t) (refl, refl)).1 in
    (omega (arith, week, ordinal-least t), omega (arith, week, ordinal-most t))

pub count-most : (w n : ℕ) → w < 7 → weekday_count w n ≤ 53
count-most w n low =
    let count = weekday_count-ordinal w ((n + 7 - w) % 7) n low (omega arith) (omega arith) in
    omega (arith, count, ordinal-most n)

year-most : (y : ℤ) → IsYear y → unsigned_abs y < 1_000_000
year-most y h = omega (arith, ints, h.0, h.1)

pub timestamp-most : (v : Moment) → IsMoment v → unsigned_abs (timestamp_of v) < 100_000_000_000_000
timestamp-most v h =
    let days = h.date in
    let time = h.time.below_day in
    let offset = h.offset.magnitude in
    omega (arith, ints)

number-most : (c : Component) (v : Moment) → IsMoment v → number c v < 100_000_000_000_000
number-most Year v h = omega (arith, year-most (year_at v.date) (year_at-range v.date h.date))
number-most Century v h = omega (arith, year-most (year_at v.date) (year_at-range v.date h.date))
number-most IsoYear v h = omega (arith, year-most (iso_year_at v.date) (IsYear-iso_year_at v.date h.date))
number-most Month v h = omega (arith, (month_at-range v.date).1)
number-most Day v h = omega (arith, (day_of_month_at-range v.date).1, days_in_month-most (year_at v.date) (month_at v.date))
number-most Ordinal v h = omega (arith, ordinal-most v.date)
number-most IsoWeek v h = omega (arith, (week-range v.date).1)
number-most Weekday v h = omega (arith, weekday_at-is v.date)
number-most DaysFromMonday v h = omega (arith, weekday_at-is v.date)
number-most SundayWeek v h = omega (arith, count-most 6 v.date (omega arith))
number-most MondayWeek v h = omega (arith, count-most 0 v.date (omega arith))
number-most Hour v h = omega (arith, h.time)
number-most Period v h = omega (arith, h.time)
number-most OffsetHour v h = omega (arith, h.offset.magnitude)
number-most OffsetSign v h = grind (arith, nat_tests)
number-most Timestamp v h = timestamp-most v h
number-most TimestampSign v h = grind (arith, nat_tests)
number-most _ v h = omega arith

year-sign-short : (y : ℤ) → length (sign_text y) ≤ 1
year-sign-short y = grind (arith, nat_tests)

sign-short : (c : Component) (v : Moment) → length (sign c v) ≤ 1
sign-short Year v = year-sign-short (year_at v.date)
sign-short Century v = year-sign-short (year_at v.date)
sign-short IsoYear v = year-sign-short (iso_year_at v.date)
sign-short _ v = lit≤ tt

padded-short : (p : Padding) (w n : ℕ) → w ≤ 9 → n < 100_000_000_000_000 → length (padded p w n) ≤ 14
padded-short padding.Zero w n few low = omega (arith, few, length-append (replicate (w - length (decimal n)) 48) (decimal n), length-replicate {A = ℕ} (w - length (decimal n)) 48, length-decimal-le 14 n (omega arith) low (omega arith))
padded-short padding.Space w n few low = omega (arith, few, length-append (replicate (w - length (decimal n)) 32) (decimal n), length-replicate {A = ℕ} (w - length (decimal n)) 32, length-decimal-le 14 n (omega arith) low (omega arith))
padded-short padding.None w n few low = length-decimal-le 14 n (omega arith) low (omega arith)

offset-sign-short : (o : ℤ) → length (offset_sign o) ≤ 15
offset-sign-short (pos n) = lit≤ tt
offset-sign-short (negsuc n) = lit≤ tt

sign-or-short : (b : Bool) (other : List ℕ) → length other ≤ 1 → length (if b then codes "-" else other) ≤ 15
sign-or-short true other few = lit≤ tt
sign-or-short false other few = omega (arith, few)

plus-short : (bytes : List ℕ) → length bytes ≤ 1 → length (or_plus bytes) ≤ 1
plus-short [] few = lit≤ tt
plus-short (b ∷ bytes) few = few

item-short : (a : List ℕ) (i : Item) (v : Moment) → length a ≤ 15 → IsMoment v → length (item_text a v i) ≤ 15
item-short a (item.Literal b) v short h = lit≤ tt
item-short a (item.Number c p) v short h =
    omega (arith, length-append (sign c v) (padded p (width c) (number c v)), sign-short c v, padded-short p (width c) (number c v) (width-most c) (number-most c v h))
item-short a (item.Signed c p) v short h =
    omega (arith, length-append (or_plus (sign c v)) (padded p (width c) (number c v)), plus-short (sign c v) (sign-short c v), padded-short p (width c) (number c v) (width-most c) (number-most c v h))
item-short a (item.Name k) v short h = omega (arith, name-short k v)
item-short a item.Fraction v short h = omega (arith, length-fraction (nanosecond_of v.time))
item-short a item.Decimals v short h = omega (arith, length-decimals (nanosecond_of v.time))
item-short a item.OffsetMinus v short h = sign-or-short (int_lt v.offset (pos 0)) [] (lit≤ tt)
item-short a item.TimestampSign v short h = sign-or-short (int_lt (timestamp_of v) (pos 0)) (codes "+") (lit≤ tt)
item-short a item.TimestampMinus v short h = sign-or-short (int_lt (timestamp_of v) (pos 0)) [] (lit≤ tt)
item-short a item.OffsetSign v short h = offset-sign-short v.offset
item-short a item.Abbreviation v short h = short

pub zone_text-short : (a : List ℕ) (items : List Item) (v : Moment) → length a ≤ 15 → IsMoment v → length (text_in_zone a items v) ≤ 15 * length items
zone_text-short a [] v short h = lit≤ tt
zone_text-short a (i ∷ items) v short h = omega (arith, length-append (item_text a v i) (text_in_zone a items v), item-short a i v short h, zone_text-short a items v short h)

pub text-short : (items : List Item) (v : Moment) → IsMoment v → length (text_of items v) ≤ 15 * length items
text-short items v h = zone_text-short [] items v (lit≤ tt) h

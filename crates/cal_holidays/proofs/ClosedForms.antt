-- The closed form counts Easter.
use Rattle.std.proofs.Common.{◌≡◌, ℕ, ◌+◌, ◌-◌, ◌*◌, ◌/◌, ◌%◌, ◌<◌, ◌≤◌, ℤ, pos, refl, ap, subst, ◌∙◌, arith, if◌then◌else◌}
use Rattle.std.specs.Prelude.{◌==◌, ◌&&◌, ◌||◌, nat_lt}
use Rattle.std.proofs.lemmas.Bool.Decides.{nat_tests}
use Rattle.cal_time.specs.Laws.{calendar_date-one}
use Rattle.cal_date.specs.Date.{IsYear, IsDate, HasCalendarDate}
use Rattle.cal_holidays.specs.Epacts.{full_moon, table_year}
use Rattle.cal_holidays.specs.Easter.{IsEaster, IsSundayAfter, counted_from}
use Rattle.cal_holidays.specs.ClosedForm as form
use Rattle.cal_holidays.proofs.Epacts.{full_moon_closed, moon_days}
use Rattle.cal_holidays.proofs.Sundays.{sunday-is, march-is, march-days}

-- Without the exceptions, the form counts the Sunday after the full moon.
plain : (y m h l : ℕ) → m + y / 100 + 1716640056 ≡ 365 * y + y / 4 + y / 400 → h < 30 → l ≡ (32 + 2 * (y / 100 % 4) + 2 * (y % 100 / 4) - h - y % 100 % 4) % 7
    → (m + h + 21 + l) % 7 ≡ 6
plain y m h l e low is = omega arith

-- An exception moves the full moon a day back, and Easter a week back if that day is a Saturday.
exceptions : (a m h l f n w : ℕ) → a < 19 → h < 30 → l < 7 → 1 ≤ m → (m + h + 21 + l) % 7 ≡ 6
    → f ≡ (if (h == 29) || ((h == 28) && nat_lt 10 a) then h + 20 else h + 21) → n ≡ m + f - 1 + 7 - (m + f - 1 + 1) % 7 → w ≡ (a + 11 * h + 22 * l) / 451
    → n + 1 ≡ m + (h + l + 22 - 7 * w)
exceptions a m h l f n w low below few some at full is earlier = grind (arith, nat_tests)

moons : (a c : ℕ) → moon_days a c ≡ (19 * a + c - c / 4 - (c - (c + 8) / 25 + 1) / 3 + 15) % 30
moons a c =
    let corrections : (8 * c + 13) / 25 ≡ (c - (c + 8) / 25 + 1) / 3 = omega arith in
    omega (arith, corrections)

-- The number of Easter by 1 March of its year.
pub easter-is : (y : ℤ) (m n : ℕ) → IsYear y → IsDate m → HasCalendarDate y 3 1 m → IsEaster y n
    → n ≡ m + full_moon (table_year y) - 1 + 7 - (m + full_moon (table_year y) - 1 + 1) % 7
easter-is y m n h date has is =
    let same : is.march ≡ m = calendar_date-one y 3 1 is.march m is.range date is.march_is has in
    let some : 1 ≤ m = omega (arith, march-is y m h date has) in
    sunday-is m (full_moon (table_year y)) n (omega arith) (subst (λ k. IsSundayAfter (counted_from (pos k) (full_moon (table_year y))) n) same is.sunday)

pub closed_form : (y : ℤ) (m n : ℕ) → IsYear y → IsDate m → HasCalendarDate y 3 1 m → IsEaster y n → n + 1 ≡ m + form.day_in_march (table_year y)
unfolding form.day_in_march
closed_form y m n h date has is =
    let t = table_year y in
    let d = form.moon_days t in
    let l = form.sunday_days t in
    let some : 1 ≤ m = omega (arith, march-is y m h date has) in
    let low : d < 30 = omega arith in
    let at : (m + d + 21 + l) % 7 ≡ 6 = plain t m d l (march-days y m h date has) low refl in
    let full : full_moon t ≡ (if (d == 29) || ((d == 28) && nat_lt 10 (t % 19)) then d + 20 else d + 21) =
    full_moon_closed t ∙ ap (λ k. if (k == 29) || ((k == 28) && nat_lt 10 (t % 19)) then k + 20 else k + 21) (moons (t % 19) (t / 100)) in
    exceptions (t % 19) m d l (full_moon t) n (form.weeks_earlier t) (omega arith) low (omega arith) some at full (easter-is y m n h date has is) refl

-- The parts of the form 5700000 years later.
moon_days-later : (y : ℕ) → form.moon_days (y + 5700000) ≡ form.moon_days y
moon_days-later y = omega arith

sunday_days-later : (y d e : ℕ) → d ≡ e → (32 + 2 * ((y + 5700000) / 100 % 4) + 2 * ((y + 5700000) % 100 / 4) - d - (y + 5700000) % 100 % 4) % 7 ≡ (32 + 2 * (y / 100 % 4) + 2 * (y % 100 / 4) - e - y % 100 % 4) % 7
sunday_days-later y d e same = omega arith

pub form-later : (y : ℕ) → form.day_in_march (y + 5700000) ≡ form.day_in_march y
unfolding form.day_in_march
form-later y =
    let d = moon_days-later y in
    let l = sunday_days-later y (form.moon_days (y + 5700000)) (form.moon_days y) d in
    let g : (y + 5700000) % 19 ≡ y % 19 = omega arith in
    cc

pub closed_form_of_positive_year : (y m n : ℕ) → IsYear (pos y) → IsDate m → HasCalendarDate (pos y) 3 1 m → IsEaster (pos y) n → n + 1 ≡ m + form.day_in_march y
closed_form_of_positive_year y m n h date has is =
    closed_form (pos y) m n h date has is ∙ ap (λ k. m + k) (form-later y)

-- The calendar of epacts of the Gregorian reform, from which Easter follows. Days are counted from
-- 1 March, which is day 1.
use Rattle.std.specs.Prelude.{ℕ, zero, suc, ◌+◌, ◌-◌, ◌*◌, ◌/◌, ◌%◌, ◌==◌, ◌&&◌, Bool, not, nat_lt, nat_le, if◌then◌else◌, ℤ, pos, ◌+ℤ◌, unsigned_abs}

-- The year of the tables: they repeat after 5700000 years, so they need no negative years.
abbrev pub table_year : ℤ → ℕ
table_year y = unsigned_abs (y +ℤ pos 5700000)

-- The golden number of a year, from 1 to 19: its place in the cycle of 19 years.
abbrev pub golden : ℕ → ℕ
golden y = y % 19 + 1

-- The solar equation: a century that 4 doesn't divide begins without a leap day, so the moon is a
-- day younger on each date.
abbrev pub is_solar : ℕ → Bool
is_solar c = not (c % 4 == 0)

-- The lunar equation: the moon is a day older after 300 years seven times, and then once after 400.
-- It is in the centuries 18, 21, 24, 27, 30, 33, 36 and 39, and 25 centuries after each.
abbrev pub is_lunar : ℕ → Bool
is_lunar c = ((c + 7) % 25 % 3 == 0) && nat_lt ((c + 7) % 25) 24

-- The epact of the golden number 1 in a century, counted from one century to the next. The Julian
-- calendar has 8 in each century.
unfoldable pub first_epact : ℕ → ℕ
first_epact zero = 8
first_epact (suc c) = (first_epact c + (if is_solar (suc c) then 29 else 0) + (if is_lunar (suc c) then 1 else 0)) % 30

-- The epact of a golden number, from 0 to 29, by the epact of the golden number 1: it is 11 more in
-- the next year.
abbrev pub epact : ℕ → ℕ → ℕ
epact first g = (first + 11 * (g - 1)) % 30

-- The paschal new moon: the first day from 8 March on that has the epact. The days from 8 to 31
-- March have the epacts from 23 down to 0, and 1 to 5 April those from 29 down to 25, with 24 also
-- on 5 April. 4 April has 25 too if the golden number is above 11.
unfoldable pub new_moon : ℕ → ℕ → ℕ
new_moon golden epact =
    if nat_le epact 23 then 31 - epact
    else (if epact == 24 then 36
    else (if (epact == 25) && nat_lt 11 golden then 35 else 61 - epact))

-- The paschal full moon of a year of the tables: the fourteenth day of the moon.
unfoldable pub full_moon : ℕ → ℕ
full_moon y = new_moon (golden y) (epact (first_epact (y / 100)) (golden y)) + 13

-- The paschal full moon by the Julian calendar, which has no equations.
unfoldable pub julian_full_moon : ℕ → ℕ
julian_full_moon y = new_moon (golden y) (epact 8 (golden y)) + 13

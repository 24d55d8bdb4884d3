-- Easter by the closed form that is known by Meeus, Jones and Butcher (Nature, 1876).
use Rattle.std.specs.Prelude.{ℕ, ◌+◌, ◌-◌, ◌*◌, ◌/◌, ◌%◌}

-- The days from 21 March to the full moon, without the exceptions.
abbrev pub moon_days : ℕ → ℕ
moon_days y = (19 * (y % 19) + y / 100 - y / 100 / 4 - (y / 100 - (y / 100 + 8) / 25 + 1) / 3 + 15) % 30

-- The days from the day after it to the Sunday.
abbrev pub sunday_days : ℕ → ℕ
sunday_days y = (32 + 2 * (y / 100 % 4) + 2 * (y % 100 / 4) - moon_days y - y % 100 % 4) % 7

-- 1 if Easter is a week earlier by the exceptions, else 0.
abbrev pub weeks_earlier : ℕ → ℕ
weeks_earlier y = (y % 19 + 11 * moon_days y + 22 * sunday_days y) / 451

-- The day of Easter, counted from 1 March as day 1.
unfoldable pub day_in_march : ℕ → ℕ
day_in_march y = moon_days y + sunday_days y + 22 - 7 * weeks_earlier y

-- The weeks of a rule by ISO weeks.
use Rattle.std.specs.Prelude.{◌≡◌, ℕ, ◌+◌, ◌↔◌, true, ◌+ℤ◌, pos, negsuc}
use Rattle.cal_units.specs.Weeks.{weeks_in_year}
use Rattle.cal_date.specs.Date.{year_at}
use Rattle.cal_date.specs.IsoWeekDate.{iso_week_at, iso_year_at}
use Rattle.cal_time.specs.declared.Weekday.TheVariants.{Monday}
use Rattle.cal_schedule.specs.Rule.{fourth_day, is_week}

-- With weeks that begin on Monday, the week of day n is the k-th of its year exactly if its ISO
-- week is k, and the year is its ISO year (`fourth_day` is 400 years later). `negsuc k` is the
-- (k + 1)-th from the end, so k weeks of the year follow.
pub record AreIsoWeeks (n : ℕ) : Type 0 where
  pub year : year_at (fourth_day Monday n) ≡ iso_year_at n +ℤ pos 400
  pub week : (k : ℕ) → (is_week Monday n (pos k) ≡ true) ↔ (iso_week_at n ≡ k)
  pub week_from_end : (k : ℕ) → (is_week Monday n (negsuc k) ≡ true) ↔ (iso_week_at n + k ≡ weeks_in_year (iso_year_at n))

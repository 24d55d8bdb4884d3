use Rattle.std.proofs.Common.{◌≡◌, ℕ, ◌<◌, get_or, pos}
use Rattle.cal_time.specs.Date.{julian_day_at}
use Rattle.cal_c.proofs.schedule.calendars.write_dates.Given as goal

abbrev pub invariant-loop-index : goal.invariant-loop-index
invariant-loop-index l = (k : ℕ) → k < l.index → get_or l.written k (pos 0) ≡ julian_day_at (get_or l.dates k 0)

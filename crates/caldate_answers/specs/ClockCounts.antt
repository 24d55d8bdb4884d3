-- The whole units from one date or moment to another, by the clocks of a zone.
use Rattle.std.specs.Prelude.{◌≡◌, Bool, true, false, ℤ, pos, Ok, MatchBool}
use Rattle.cal_datetime.specs.OffsetDateTime.{LocalAndOffset, instant}
use Rattle.cal_schedule.specs.Workdays.{WorkWeek}
use Rattle.cal_text.specs.declared.any.DateOrMoment.{DateOrMoment}
use Rattle.cal_text.specs.declared.any.DateOrMoment.TheVariants.{Date, Moment}
use Rattle.cal_zone.specs.Timeline.{Timeline}
use Rattle.cal_zoned.specs.Zoned.{InZone, IsSeen}
use Rattle.caldate_answers.specs.Counts.{IsCount}
use Rattle.caldate_answers.specs.Found.{moment_of}
use Rattle.caldate_answers.specs.declared.request.TimeUnit.{TimeUnit}
use Rattle.caldate_answers.specs.declared.request.TimeUnit.TheVariants.{Hours, Minutes, Seconds}

-- Days and longer units are counted by what the clocks show, others by instants.
abbrev pub goes_by_clock : TimeUnit → Bool
goes_by_clock Hours = false
goes_by_clock Minutes = false
goes_by_clock Seconds = false
goes_by_clock other = true

-- What the clocks show, as a moment at UTC. A date is midnight.
abbrev pub IsReading : Timeline → DateOrMoment → LocalAndOffset → Type 0
IsReading zone (Date form n) m = m ≡ moment_of (Date form n)
IsReading zone (Moment form from) m =
    (there : InZone) × IsSeen zone (instant from) (Ok there) × (m ≡ record { local = there.moment.local; offset = pos 0 })

-- The number of units is z, counted between what the clocks show.
pub record IsClockCount (zone : Timeline) (workdays : WorkWeek) (unit : TimeUnit) (first last : DateOrMoment) (z : ℤ) : Type 0 where
  pub start : LocalAndOffset
  pub end : LocalAndOffset
  pub from : IsReading zone first start
  pub to : IsReading zone last end
  pub count : IsCount workdays unit start end z

abbrev pub IsCountOn : Timeline → WorkWeek → TimeUnit → DateOrMoment → DateOrMoment → ℤ → Type 0
IsCountOn zone workdays unit from to z =
    MatchBool (goes_by_clock unit) (IsClockCount zone workdays unit from to z) (IsCount workdays unit (moment_of from) (moment_of to) z)

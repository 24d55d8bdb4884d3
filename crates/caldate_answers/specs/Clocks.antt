-- The moments of strings without an offset, by the clocks of a zone.
use Rattle.std.specs.Prelude.{◌≡◌, ℤ, Option, Some, None, Result, Ok, Err}
use Rattle.cal_datetime.specs.OffsetDateTime.{LocalAndOffset}
use Rattle.cal_text.specs.declared.any.DateOrMoment.{DateOrMoment}
use Rattle.cal_text.specs.declared.any.DateOrMoment.TheVariants.{Date, Moment}
use Rattle.cal_text.specs.declared.any.MomentForm.{MomentForm}
use Rattle.cal_zone.specs.Local.{IsLocalOf}
use Rattle.cal_zone.specs.Policy.{moment_by}
use Rattle.cal_zone.specs.declared.local.Local.{Local}
use Rattle.cal_zone.specs.declared.local_time_error.LocalTimeError.{LocalTimeError}
use Rattle.cal_zone.specs.declared.local_time_error.LocalTimeError.TheVariants as twice
use Rattle.caldate_lines.specs.declared.no_answer.NoAnswer.{NoAnswer}
use Rattle.caldate_lines.specs.declared.no_answer.NoAnswer.TheVariants.{Skipped, Repeated}
use Rattle.caldate_answers.specs.declared.request.Clock.{Clock}

-- The reason why a policy selects no moment: clocks show the reading twice, or skip it.
abbrev pub why_none : LocalTimeError → NoAnswer
why_none twice.Repeated = Repeated
why_none other = Skipped

-- The result with the moment that a policy selects, or with the reason why it selects none.
abbrev pub placed_as : MomentForm → Result LocalAndOffset LocalTimeError → Result DateOrMoment NoAnswer
placed_as form (Ok m) = Ok (Moment form m)
placed_as form (Err error) = Err (why_none error)

-- The result has the moment that the policy selects for the reading, by the clocks of the zone, or
-- the reason why it selects nothing.
pub record IsOnClock (clock : Clock) (form : MomentForm) (reading : ℤ) (r : Result DateOrMoment NoAnswer) : Type 0 where
  pub local : Local
  pub is : IsLocalOf clock.zone reading local
  pub placed : r ≡ placed_as form (moment_by clock.policy local)

-- With a clock, the local time of a moment is a reading of the clock. A date stays as it is.
abbrev pub IsPlaced : Option Clock → DateOrMoment → Result DateOrMoment NoAnswer → Type 0
IsPlaced None found r = r ≡ Ok found
IsPlaced (Some clock) (Date form n) r = r ≡ Ok (Date form n)
IsPlaced (Some clock) (Moment form m) r = IsOnClock clock form m.local r

-- The dates or moments of a recurrence up to a last one, and the bytes that the writer takes.
use Rattle.std.specs.Prelude.{◌≡◌, ℕ, nat_le, Bool, ℤ, pos, ◌-ℤ◌, ◌≤ℤ◌, int_le, List, [], ◌∷◌, ◌++◌, filter, Option, Some, Result}
use Rattle.std.specs.List.{flat_map, take_while}
use Rattle.cal_datetime.specs.OffsetDateTime.{LocalAndOffset, instant}
use Rattle.cal_recurrence.specs.Days.{days_of}
use Rattle.cal_recurrence.specs.RecurrenceReadings.{readings_of}
use Rattle.cal_recurrence.specs.SetMeaning.{last_instant, zone_rule}
use Rattle.cal_recurrence.specs.ZonedSet.{IsFirstAfter, Occurs}
use Rattle.cal_recurrence.specs.declared.recurrence.Recurrence.{Recurrence}
use Rattle.cal_recurrence.specs.declared.zoned_set.ZonedSet.{ZonedSet}
use Rattle.cal_zone.specs.Timeline.{Timeline}
use Rattle.caldate_lines.specs.Outputs.{IfAll, WritesPage}
use Rattle.caldate_lines.specs.declared.run_error.RunError.{RunError}
use Rattle.caldate_args.specs.declared.command.Occurrences.{Occurrences}
use Rattle.caldate_args.specs.declared.command.Span.{Span}
use Rattle.caldate_args.specs.declared.command.Span.TheVariants.{Dates, InZone, Moments}
use Rattle.caldate_args.specs.ClockWords.{moment_in, rfc3339_or_unix_text}
use Rattle.caldate_args.specs.Lists.{WritesLines, line_of}
use Rattle.caldate_run.specs.declared.list.remaining.Remaining.{Remaining}
use Rattle.caldate_run.specs.declared.list.remaining.Remaining.TheVariants as left

-- Day n is not past the last day.
abbrev pub is_day_up_to : ℕ → ℕ → Bool
is_day_up_to last n = nat_le n last

-- The reading z, at the offset, is a moment that is not past the last moment.
abbrev pub is_moment_up_to : ℤ → LocalAndOffset → ℤ → Bool
is_moment_up_to offset last z = int_le (instant (record { local = z; offset = offset })) (instant last)

-- The line of a moment, or of the reading z at the offset.
abbrev pub moment_line : LocalAndOffset → List ℕ
moment_line m = rfc3339_or_unix_text m ++ 10 ∷ []

abbrev pub reading_line : ℤ → ℤ → List ℕ
reading_line offset z = moment_line (record { local = z; offset = offset })

-- ---- in a zone
-- The set has the readings of a recurrence, from the reading of the zone's clocks at a moment on. An
-- UNTIL with `Z` ends it at that instant.
pub record IsSetIn (zone : Timeline) (r : Recurrence) (first : LocalAndOffset) (set : ZonedSet) : Type 0 where
  pub rule : set.readings.rule ≡ zone_rule r (moment_in (Some zone) (instant first)).local
  pub dates : set.readings.dates.now ≡ []
  pub exceptions : set.readings.exceptions.now ≡ []
  pub zone_is : set.zone.now ≡ zone
  pub until : set.until ≡ last_instant r.end
  pub instants : set.instants.now ≡ []
  pub left_out : set.exceptions.now ≡ []

-- m is the first moment of the set after the instant x, and not past the last moment.
pub record IsNextIn (set : ZonedSet) (last : LocalAndOffset) (x : ℤ) (m : LocalAndOffset) : Type 0 where
  pub first : IsFirstAfter (Occurs set) x m
  pub not_past : instant m ≤ℤ instant last

-- The set doesn't have such a moment.
abbrev pub IsEndIn : ZonedSet → LocalAndOffset → ℤ → Type 0
IsEndIn set last x = (m : LocalAndOffset) → ¬ IsNextIn set last x m

-- These are the next moments of the set after the instant x, in order, and `Ends` holds of the last
-- instant, or of x without a moment.
abbrev pub AreNextIn : ZonedSet → LocalAndOffset → (ℤ → Type 0) → ℤ → List LocalAndOffset → Type 0
AreNextIn set last Ends x [] = Ends x
AreNextIn set last Ends x (m ∷ ms) = IsNextIn set last x m × AreNextIn set last Ends (instant m) ms

-- These are all moments of the set after the instant x and up to the last moment, or the first of
-- them.
abbrev pub AreListedIn : ZonedSet → LocalAndOffset → Bool → ℤ → List LocalAndOffset → Type 0
AreListedIn set last all x ms = AreNextIn set last (λ y. IfAll all (IsEndIn set last y)) x ms

-- The writer took the lines of the moments of the set from the first moment to the last.
abbrev pub ListsSet : ZonedSet → LocalAndOffset → LocalAndOffset → Result Unit RunError → Option (List ℕ) → Option (List ℕ) → Type 0
ListsSet set first last outcome old new = WritesLines moment_line (λ all. AreListedIn set last all (instant first -ℤ pos 1)) outcome old new

-- ---- the lines
-- The writer took the lines of the days of a recurrence from the first day to the last, of its
-- readings from the first moment to the last, each at the offset of the first, or of its moments in
-- a zone.
abbrev pub ListsSpan : Span → Recurrence → Result Unit RunError → Option (List ℕ) → Option (List ℕ) → Type 0
ListsSpan (Dates first last) r outcome old new = WritesPage (flat_map line_of (filter (is_day_up_to last) (days_of r first))) outcome old new
ListsSpan (Moments first last) r outcome old new = WritesPage (flat_map (reading_line first.offset) (filter (is_moment_up_to first.offset last) (readings_of r first.local))) outcome old new
ListsSpan (InZone zone first last) r outcome old new = (set : ZonedSet) × IsSetIn zone r first set × ListsSet set first last outcome old new

abbrev pub ListsOccurrences : Occurrences → Result Unit RunError → Option (List ℕ) → Option (List ℕ) → Type 0
ListsOccurrences asked outcome old new = ListsSpan asked.span asked.recurrence outcome old new

-- The lines of the days or readings that are left, up to the first that is past the last.
abbrev pub lines_left : Remaining → List ℕ
lines_left (left.Dates days last) = flat_map line_of (take_while (is_day_up_to last) days)
lines_left (left.Moments readings offset last) = flat_map (reading_line offset) (take_while (is_moment_up_to offset last) readings)

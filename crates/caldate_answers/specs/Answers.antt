-- The answer to the text of a line.
use Rattle.std.specs.Prelude.{◌≡◌, ◌⊎◌, ℕ, ◌&&◌, Bool, true, false, not, ℤ, pos, ◌+ℤ◌, ◌-ℤ◌, List, Option, Some, None, is_some, Result, Ok, Err, if◌then◌else◌}
use Rattle.std.specs.Fmt.{signed_decimal}
use Rattle.std.specs.Option.{option_map_or}
use Rattle.cal_time.specs.Date.{IsDate, julian_day_at}
use Rattle.cal_time.specs.SignedDuration.{whole_days}
use Rattle.cal_time.specs.SignedDuration as duration
use Rattle.cal_datetime.specs.DateTime.{IsDateTime, date_time}
use Rattle.cal_datetime.specs.OffsetDateTime.{LocalAndOffset, instant, local_at, unix_seconds}
use Rattle.cal_duration.specs.DurationText.{duration_text}
use Rattle.cal_format.specs.declared.item.Item.{Item}
use Rattle.cal_names.specs.declared.names.Names.{Names}
use Rattle.cal_schedule.specs.Period.{Parts}
use Rattle.cal_text.specs.declared.any.DateOrMoment.{DateOrMoment}
use Rattle.cal_text.specs.declared.any.DateOrMoment.TheVariants as read
use Rattle.cal_text.specs.declared.any.MomentForm.TheVariants.{Rfc3339}
use Rattle.cal_schedule.specs.Workdays.{WorkWeek}
use Rattle.cal_zone.specs.Timeline.{offset_at}
use Rattle.cal_zone.specs.declared.local_time_error.LocalTimeError.{LocalTimeError}
use Rattle.cal_zone.specs.declared.local_time_error.LocalTimeError.TheVariants.{Skipped, Repeated, OutOfRange}
use Rattle.caldate_lines.specs.declared.no_answer.NoAnswer.{NoAnswer}
use Rattle.caldate_lines.specs.declared.no_answer.NoAnswer.TheVariants as why
use Rattle.caldate_answers.specs.Clocks.{IsPlaced}
use Rattle.caldate_answers.specs.Counts.{IsCount}
use Rattle.caldate_answers.specs.ClockCounts.{IsCountOn}
use Rattle.caldate_answers.specs.Bounds.{lies_in}
use Rattle.caldate_answers.specs.Forms.{IsInForm, IsInLanguage, format_text}
pub use Rattle.caldate_answers.specs.Found.{day_of, form_iso, form_read, is_date, moment_of}
use Rattle.caldate_answers.specs.ClockMoves.{IsMovedOn}
pub use Rattle.caldate_answers.specs.Moves.{floored, on_day}
use Rattle.caldate_answers.specs.Moves.{IsNearest, MovesTo}
use Rattle.caldate_answers.specs.Periods.{IsAfter, IsPeriodBetween, IsPeriodOn, IsPeriodText, duration_from, hours_text}
use Rattle.caldate_answers.specs.Readers.{IsFoundBy, IsUnread}
use Rattle.caldate_answers.specs.declared.request.Clock.{Clock}
use Rattle.caldate_answers.specs.declared.request.DayMove.{DayMove}
use Rattle.caldate_answers.specs.declared.request.Filter.{Filter}
use Rattle.caldate_answers.specs.declared.request.Form.{Form}
use Rattle.caldate_answers.specs.declared.request.Form.TheVariants.{Moment}
use Rattle.caldate_answers.specs.declared.request.Measure.{Measure}
use Rattle.caldate_answers.specs.declared.request.Measure.TheVariants as measure
use Rattle.caldate_answers.specs.declared.request.Move.{Move as AnyMove}
use Rattle.caldate_answers.specs.declared.request.Move.TheVariants as move
use Rattle.caldate_answers.specs.declared.request.Place.{Place}
use Rattle.caldate_answers.specs.declared.request.Place.TheVariants as place
use Rattle.caldate_answers.specs.declared.request.Request.{Request}
use Rattle.caldate_answers.specs.declared.request.Request.TheVariants.{To, ToIso, Print, Move, MoveAt, Until, Since, At, PrintAt, PrintInLanguage, PrintInLanguageAt, Keep}
use Rattle.caldate_answers.specs.declared.request.Target.TheVariants as target

-- A date moves by only the whole days of a duration, a moment by all of it.
pub record IsDayLater (n : ℕ) (d : ℤ) (m : LocalAndOffset) : Type 0 where
  pub day : ℕ
  pub date : IsDate day
  pub moved : pos day ≡ pos n +ℤ whole_days d
  pub midnight : m ≡ record { local = date_time day 0; offset = pos 0 }

pub record IsMomentLater (from : LocalAndOffset) (d : ℤ) (m : LocalAndOffset) : Type 0 where
  pub in_range : IsDateTime (from.local +ℤ d)
  pub moved : m ≡ record { local = from.local +ℤ d; offset = from.offset }

abbrev pub IsLater : DateOrMoment → ℤ → LocalAndOffset → Type 0
IsLater (read.Date form n) d m = IsDayLater n d m
IsLater (read.Moment form from) d m = IsMomentLater from d m

-- The string is the number of days between two dates, or otherwise a duration.
abbrev pub until_text : DateOrMoment → DateOrMoment → List ℕ
until_text from to =
    if is_date from && is_date to then signed_decimal (julian_day_at (day_of to) -ℤ julian_day_at (day_of from))
    else duration.text (instant (moment_of to) -ℤ instant (moment_of from))

-- With a unit, the string is the number of whole units, truncated toward zero. Otherwise it is a
-- period or a duration.
abbrev pub IsMeasured : WorkWeek → Measure → DateOrMoment → DateOrMoment → List ℕ → Type 0
IsMeasured workdays (measure.Units unit) from to words = (z : ℤ) × IsCount workdays unit (moment_of from) (moment_of to) z × (words ≡ signed_decimal z)
IsMeasured workdays measure.Period from to words = IsPeriodText (IsPeriodBetween (moment_of from) (moment_of to)) words
IsMeasured workdays measure.Duration from to words = words ≡ duration_text (duration_from from to)
IsMeasured workdays measure.Clock from to words = words ≡ hours_text (duration_from from to)

abbrev pub IsBetween : WorkWeek → Option Measure → DateOrMoment → DateOrMoment → List ℕ → Type 0
IsBetween workdays None from to words = words ≡ until_text from to
IsBetween workdays (Some measure) from to words = IsMeasured workdays measure from to words

-- Moment m is the moment `from` at the offset.
pub record IsShownAt (offset : ℤ) (from m : LocalAndOffset) : Type 0 where
  pub in_range : IsDateTime (local_at (instant from) offset)
  pub value : m ≡ record { local = local_at (instant from) offset; offset = offset }

-- The offset of a place at a moment.
abbrev pub offset_in : Place → LocalAndOffset → ℤ
offset_in (place.Offset offset) from = offset
offset_in (place.Zone zone) from = offset_at zone (unix_seconds (instant from))

-- The words are the moment in a form or a format, at the offset of the place.
abbrev pub IsAt : Place → Form → LocalAndOffset → List ℕ → Type 0
IsAt place form from words = (m : LocalAndOffset) × IsShownAt (offset_in place from) from m × IsInForm form m words

abbrev pub IsPrintedAt : Place → List Item → LocalAndOffset → List ℕ → Type 0
IsPrintedAt place items from words = (m : LocalAndOffset) × IsShownAt (offset_in place from) from m × (words ≡ format_text items m)

-- The same with these names.
abbrev pub IsInLanguageAt : Place → Names → List Item → LocalAndOffset → List ℕ → Type 0
IsInLanguageAt place names items from words = (m : LocalAndOffset) × IsShownAt (offset_in place from) from m × IsInLanguage names items m words

-- The words are the moved day in the form that was read, at the same time of day.
abbrev pub IsOnMovedDay : WorkWeek → DayMove → DateOrMoment → List ℕ → Type 0
IsOnMovedDay workdays by found words = (n : ℕ) × MovesTo workdays by (day_of found) n × IsInForm (form_read found) (on_day (moment_of found) n) words

-- The words are the date or moment after adding a duration, in the form that was read.
abbrev pub IsAnswerLater : ℤ → DateOrMoment → List ℕ → Type 0
IsAnswerLater d found words = (m : LocalAndOffset) × IsLater found d m × IsInForm (form_read found) m words

-- The words are the date or moment after a period, in the form that was read.
abbrev pub IsAnswerAfter : Parts → DateOrMoment → List ℕ → Type 0
IsAnswerAfter p found words = (m : LocalAndOffset) × IsAfter found p m × IsInForm (form_read found) m words

-- The words are the rounded date or moment in the form that was read.
abbrev pub IsAnswerNearest : ℕ → DateOrMoment → List ℕ → Type 0
IsAnswerNearest n found words = (m : LocalAndOffset) × IsNearest n (moment_of found) m × IsInForm (form_read found) m words

-- The words are the moved date or moment in the form that was read. A moment keeps its offset.
abbrev pub IsMoved : WorkWeek → AnyMove → DateOrMoment → List ℕ → Type 0
IsMoved workdays (move.Day by) found words = IsOnMovedDay workdays by found words
IsMoved workdays (move.Days d) found words = IsAnswerLater d found words
IsMoved workdays (move.Add d) found words = IsAnswerLater d found words
IsMoved workdays (move.Floor n) found words = IsInForm (form_read found) (floored n (moment_of found)) words
IsMoved workdays (move.Period p) found words = IsAnswerAfter p found words
IsMoved workdays (move.Round n) found words = IsAnswerNearest n found words

-- The words are the moment in a form, moved by the clocks of a zone.
abbrev pub IsMovedAt : Clock → WorkWeek → AnyMove → Form → LocalAndOffset → List ℕ → Type 0
IsMovedAt clock workdays by form from words = (m : LocalAndOffset) × IsMovedOn clock workdays by from (Ok m) × IsInForm form m words

-- With a clock, a moment goes by it. A date moves as without one.
abbrev pub IsMovedBy : Option Clock → WorkWeek → AnyMove → DateOrMoment → List ℕ → Type 0
IsMovedBy (Some clock) workdays by (read.Moment form m) words = IsMovedAt clock workdays by (Moment form) m words
IsMovedBy clock workdays by found words = IsMoved workdays by found words

-- With a clock, whole units and periods go by it. A duration is the same by all clocks.
abbrev pub IsMeasuredOn : Clock → WorkWeek → Measure → DateOrMoment → DateOrMoment → List ℕ → Type 0
IsMeasuredOn clock workdays (measure.Units unit) from to words = (z : ℤ) × IsCountOn clock.zone workdays unit from to z × (words ≡ signed_decimal z)
IsMeasuredOn clock workdays measure.Period from to words = IsPeriodText (IsPeriodOn clock from to) words
IsMeasuredOn clock workdays other from to words = IsMeasured workdays other from to words

abbrev pub IsBetweenOn : Clock → WorkWeek → Option Measure → DateOrMoment → DateOrMoment → List ℕ → Type 0
IsBetweenOn clock workdays None from to words = IsBetween workdays None from to words
IsBetweenOn clock workdays (Some measure) from to words = IsMeasuredOn clock workdays measure from to words

abbrev pub IsBetweenBy : Option Clock → WorkWeek → Option Measure → DateOrMoment → DateOrMoment → List ℕ → Type 0
IsBetweenBy None workdays measure from to words = IsBetween workdays measure from to words
IsBetweenBy (Some clock) workdays measure from to words = IsBetweenOn clock workdays measure from to words

-- The clock of a request goes before that of the filter.
abbrev pub own_clock : Option Clock → Option Clock → Option Clock
own_clock None clock = clock
own_clock (Some own) clock = Some own

-- The clock of a request, after `at`.
abbrev pub clock_of : Request → Option Clock
clock_of (MoveAt clock by) = Some clock
clock_of (Until own target measure) = own
clock_of (Since own target measure) = own
clock_of other = None

-- The words replace the string that was read. `keep` leaves it as it is. TEXT of `until` and
-- `since` must be given: if other fields have it, it is put in at each line.
abbrev pub IsAnswerTo : Option Clock → WorkWeek → Request → List ℕ → DateOrMoment → List ℕ → Type 0
IsAnswerTo clock workdays (To form) text found words = IsInForm form (moment_of found) words
IsAnswerTo clock workdays ToIso text found words = IsInForm (form_iso found) (moment_of found) words
IsAnswerTo clock workdays (Print items) text found words = words ≡ format_text items (moment_of found)
IsAnswerTo clock workdays (PrintInLanguage items names) text found words = IsInLanguage names.now items (moment_of found) words
IsAnswerTo clock workdays (Move by) text found words = IsMovedBy clock workdays by found words
IsAnswerTo clock workdays (MoveAt other by) text found words = IsMovedAt other workdays by (Moment Rfc3339) (moment_of found) words
IsAnswerTo clock workdays (Until own (target.Text to) unit) text found words = IsBetweenBy (own_clock own clock) workdays unit found to words
IsAnswerTo clock workdays (Since own (target.Text from) unit) text found words = IsBetweenBy (own_clock own clock) workdays unit from found words
IsAnswerTo clock workdays (At place form) text found words = IsAt place form (moment_of found) words
IsAnswerTo clock workdays (PrintAt place items) text found words = IsPrintedAt place items (moment_of found) words
IsAnswerTo clock workdays (PrintInLanguageAt place items names) text found words = IsInLanguageAt place names.now items (moment_of found) words
IsAnswerTo clock workdays (Keep bounds) text found words = (lies_in bounds found ≡ Some true) × (words ≡ text)
IsAnswerTo clock workdays other text found words = ⊥

-- The answer to the date or moment of a string by a filter.
abbrev pub IsAnswerBy : Filter → List ℕ → DateOrMoment → List ℕ → Type 0
IsAnswerBy filter text found words = IsAnswerTo filter.clock filter.workdays filter.request text found words

-- `keep` answers with the string itself.
abbrev pub keeps : Request → Bool
keeps (Keep bounds) = true
keeps other = false

-- `keep` leaves out a line whose date or moment lies outside of its bounds.
abbrev pub leaves_out : Request → DateOrMoment → Bool
leaves_out (Keep bounds) found = option_map_or not (lies_in bounds found) false
leaves_out other found = false

-- `keep` compares a date or moment with its bounds, except a date with a moment.
abbrev pub compares : Request → DateOrMoment → Bool
compares (Keep bounds) found = is_some (lies_in bounds found)
compares other found = false

-- ---- no answer
-- A policy rejects the time to which a moment moves. Otherwise it is out of range, or has no
-- string.
abbrev pub why_rejected : LocalTimeError → NoAnswer
why_rejected Skipped = why.Skipped
why_rejected Repeated = why.Repeated
why_rejected OutOfRange = why.None

abbrev pub why_unmoved : Result LocalAndOffset LocalTimeError → NoAnswer
why_unmoved (Ok m) = why.None
why_unmoved (Err e) = why_rejected e

abbrev pub IsWhyUnmoved : Clock → WorkWeek → AnyMove → LocalAndOffset → NoAnswer → Type 0
IsWhyUnmoved clock workdays by from any = (r : Result LocalAndOffset LocalTimeError) × IsMovedOn clock workdays by from r × (any ≡ why_unmoved r)

abbrev pub IsWhyNotMoved : Option Clock → WorkWeek → AnyMove → DateOrMoment → NoAnswer → Type 0
IsWhyNotMoved (Some clock) workdays by (read.Moment form m) any = IsWhyUnmoved clock workdays by m any
IsWhyNotMoved clock workdays by found any = any ≡ why.None

-- Why a date or moment has no answer.
abbrev pub IsWhyUnanswered : Option Clock → WorkWeek → Request → DateOrMoment → NoAnswer → Type 0
IsWhyUnanswered clock workdays (Move by) found any = IsWhyNotMoved clock workdays by found any
IsWhyUnanswered clock workdays (MoveAt own by) found any = IsWhyUnmoved own workdays by (moment_of found) any
IsWhyUnanswered clock workdays other found any = any ≡ why.None

-- ---- the answer to a string
-- The words that replace it, or None if its line is left out, or why it has no answer.
abbrev pub Answer : Type 0
Answer = Result (Option (List ℕ)) NoAnswer

-- The date or moment that was read has no answer for this reason, and its line is not left out.
abbrev pub HasNone : Filter → List ℕ → DateOrMoment → NoAnswer → Type 0
HasNone filter text found any =
    (leaves_out filter.request found ≡ false) × ((words : List ℕ) → ¬ IsAnswerBy filter text found words)
    × IsWhyUnanswered filter.clock filter.workdays filter.request found any

-- The string is read, as this date or moment. With a clock, its local time is a reading of the
-- clock.
abbrev pub IsReadAs : Filter → List ℕ → DateOrMoment → Type 0
IsReadAs filter text found =
    (first : DateOrMoment) × IsFoundBy filter.assumptions filter.readers text first × IsPlaced filter.clock first (Ok found)

-- The string is in none of the forms, or its local time is not that of one moment.
abbrev pub IsNotRead : Filter → List ℕ → NoAnswer → Type 0
IsNotRead filter text any = IsUnread filter.assumptions filter.readers text any
    ⊎ ((first : DateOrMoment) × IsFoundBy filter.assumptions filter.readers text first × IsPlaced filter.clock first (Err any))

-- The answer to a string.
abbrev pub IsAnswer : Filter → List ℕ → Answer → Type 0
IsAnswer filter text (Ok (Some words)) = (found : DateOrMoment) × IsReadAs filter text found × IsAnswerBy filter text found words
IsAnswer filter text (Ok None) = (found : DateOrMoment) × IsReadAs filter text found × (leaves_out filter.request found ≡ true)
IsAnswer filter text (Err any) = IsNotRead filter text any ⊎ ((found : DateOrMoment) × IsReadAs filter text found × HasNone filter text found any)

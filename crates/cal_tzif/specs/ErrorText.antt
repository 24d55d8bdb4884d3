-- The text of an error in the bytes of a time zone.
use Rattle.std.specs.Prelude.{ℕ, List, ◌++◌, codes, decimal}
use Rattle.cal_zone.specs.declared.change_error.ChangeError.{ChangeError}
use Rattle.cal_zone.specs.declared.change_error.ChangeError.TheVariants as change
use Rattle.cal_zone.specs.declared.timeline_error.TimelineError.{TimelineError}
use Rattle.cal_zone.specs.declared.timeline_error.TimelineError.TheVariants as timeline
use Rattle.cal_tzif.specs.declared.zone_error.ZoneError.{ZoneError}
use Rattle.cal_tzif.specs.declared.zone_error.ZoneErrorKind.{ZoneErrorKind}
use Rattle.cal_tzif.specs.declared.zone_error.ZoneErrorKind.TheVariants as kinds

-- The reason why changes are not in order.
abbrev pub change_reason : ChangeError → List ℕ
change_reason change.FirstOffset = codes "invalid local time type"
change_reason (change.Offset k) = codes "invalid local time type"
change_reason (change.Instant k) = codes "changes out of order"
change_reason (change.NotRising k) = codes "changes out of order"
change_reason (change.Overlap k) = codes "overlapping changes"

-- The reason why changes and a rule are not a zone.
abbrev pub timeline_reason : TimelineError → List ℕ
timeline_reason (timeline.Change error) = change_reason error
timeline_reason timeline.Junction = codes "overlapping changes"

-- The reason of an error.
abbrev pub reason : ZoneErrorKind → List ℕ
reason kinds.Truncated = codes "unexpected end"
reason kinds.Magic = codes "not a zone file"
reason kinds.Version = codes "unsupported version"
reason kinds.LeapSeconds = codes "leap seconds"
reason kinds.NoType = codes "missing local time type"
reason kinds.TypeIndex = codes "invalid type index"
reason kinds.Offset = codes "invalid local time type"
reason kinds.Daylight = codes "invalid local time type"
reason kinds.NameIndex = codes "invalid abbreviation"
reason kinds.NotAscii = codes "invalid abbreviation"
reason kinds.NameEnd = codes "invalid abbreviation"
reason kinds.Name = codes "invalid abbreviation"
reason (kinds.Timeline error) = timeline_reason error
reason kinds.Newline = codes "missing newline"
reason kinds.PosixOffset = codes "invalid POSIX offset"
reason kinds.Day = codes "invalid day of a rule"
reason kinds.Time = codes "invalid time of a rule"
reason kinds.Months = codes "months of a rule too close"
reason kinds.Trailing = codes "trailing bytes"

-- An error prints its reason and its position in decimal.
abbrev pub error_text : ZoneError → List ℕ
error_text e = reason e.kind ++ codes " at " ++ decimal e.position

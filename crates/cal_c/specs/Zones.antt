-- Time zones for C: bytes and what a call found in them, and the results of the calls for them.
use Rattle.std.specs.Prelude.{◌≡◌, ◌⊎◌, ◌↔◌, ◌==◌, ◌++◌, ℕ, ◌<◌, ◌≤◌, nat_lt, Bool, if◌then◌else◌, List, [], length, ℤ, pos, neg_ℤ, ◌-ℤ◌, Result, Ok, Err}
use Rattle.cal_time.specs.Month.{month_of_index}
use Rattle.cal_time.specs.Weekday.{weekday_of_index}
use Rattle.cal_datetime.specs.DateTime.{IsDateTime}
use Rattle.cal_datetime.specs.OffsetDateTime.{LocalAndOffset, instant, local_at, unix_seconds}
use Rattle.cal_format.specs.declared.item.Item.{Item}
use Rattle.cal_format.specs.Moment.{moment_of_offset_date_time}
use Rattle.cal_format.specs.Text.{text_in_zone}
use Rattle.cal_zone.specs.Abbreviation.{abbreviation}
use Rattle.cal_zone.specs.Changes.{IsNextChange, NoNextChange, IsPreviousChange, NoPreviousChange}
use Rattle.cal_zone.specs.declared.change.Change.{Change}
use Rattle.cal_zone.specs.declared.change_error.ChangeError.TheVariants.{FirstOffset, Offset, Instant, NotRising, Overlap}
use Rattle.cal_zone.specs.declared.instants.Instants.{Instants}
use Rattle.cal_zone.specs.declared.instants.Instants.TheVariants as instants
use Rattle.cal_zone.specs.declared.local.Local.{Local}
use Rattle.cal_zone.specs.declared.local_time_error.LocalTimeError.{LocalTimeError}
use Rattle.cal_zone.specs.declared.local_time_error.LocalTimeError.TheVariants.{Skipped, Repeated, OutOfRange}
use Rattle.cal_zone.specs.declared.local_type.LocalType.{LocalType}
use Rattle.cal_zone.specs.declared.policy.Policy.{Policy}
use Rattle.cal_zone.specs.declared.policy.Policy.TheVariants.{Compatible, Earlier, Later, Reject}
use Rattle.cal_zone.specs.declared.yearly.Yearly.{Yearly}
use Rattle.cal_zone.specs.declared.timeline_error.TimelineError.{TimelineError}
use Rattle.cal_zone.specs.declared.timeline_error.TimelineError.TheVariants as timeline
use Rattle.cal_zone.specs.Instants.{Names, IsExplained}
use Rattle.cal_zone.specs.Local.{IsLocalOf}
use Rattle.cal_zone.specs.Policy.{moment_by}
use Rattle.cal_zone.specs.Rule.{changes_from, IsCalm}
use Rattle.cal_zone.specs.Table.{changes_in, IsReadable}
use Rattle.cal_zone.specs.Timeline as zones
use Rattle.cal_zone.specs.Timeline.{Timeline, InOrder}
use Rattle.cal_tzif.specs.declared.zone_error.ZoneError.{ZoneError}
use Rattle.cal_tzif.specs.declared.zone_error.ZoneErrorKind.{ZoneErrorKind}
use Rattle.cal_tzif.specs.declared.zone_error.ZoneErrorKind.TheVariants as kinds
use Rattle.cal_c.specs.FormatTexts.{IsUnprinted, IsWritten, length_error}
use Rattle.cal_c.specs.Moments.{moment_ok, moment_error, IsMomentOrError}
use Rattle.cal_c.specs.Results.{no_value, int64_ok, int64_error}
use Rattle.cal_c.specs.declared.status.TheConstants.{OK, RESULT_OUT_OF_RANGE, UNEXPECTED_END, UNSUPPORTED_ITEM, SKIPPED_TIME, REPEATED_TIME, NOT_A_ZONE_FILE, UNSUPPORTED_VERSION, LEAP_SECONDS, MISSING_LOCAL_TYPE, INVALID_TYPE_INDEX, INVALID_LOCAL_TYPE, INVALID_ABBREVIATION, CHANGES_OUT_OF_ORDER, OVERLAPPING_CHANGES, MISSING_NEWLINE, INVALID_POSIX_OFFSET, INVALID_RULE_DAY, INVALID_RULE_TIME, MONTHS_TOO_CLOSE, TRAILING_BYTES}
use Rattle.cal_c.specs.Texts.{no_position}
use Rattle.cal_c.specs.declared.formats.results.LengthResult.{LengthResult}
use Rattle.cal_c.specs.declared.results.Int64Result.{Int64Result}
use Rattle.cal_c.specs.declared.results.MomentResult.{MomentResult}
use Rattle.cal_c.specs.declared.zones.results.LocalResult.{LocalResult}
use Rattle.cal_c.specs.declared.zones.results.LocalTypeResult.{LocalTypeResult}
use Rattle.cal_c.specs.declared.zones.checked_zone.CheckedParts.{CheckedParts}
use Rattle.cal_c.specs.declared.zones.checked_zone.CheckedZone.{CheckedZone}
use Rattle.cal_c.specs.declared.zones.checked_zone.ZoneClock.{ZoneClock}
use Rattle.cal_c.specs.declared.zones.checked_zone.ZoneYearly.{ZoneYearly}
use Rattle.cal_c.specs.declared.zones.results.PartsResult.{PartsResult}

-- ---- zones that are checked once
-- The local time type and the yearly change with these numbers.
abbrev pub local_type_in : ZoneClock → LocalType
local_type_in t = record { offset = t.offset; is_daylight = nat_lt 0 t.is_daylight; name_start = t.name_start; name_end = t.name_end }

abbrev pub yearly_in : ZoneYearly → Yearly
yearly_in r = record { month = month_of_index r.month; week = r.week; weekday = weekday_of_index r.weekday; time = r.time; kind = local_type_in r.clock }

-- The changes of the rule after the changes of the file, if the parts have a rule.
abbrev pub changes_by_rule : CheckedParts → List Change
changes_by_rule p = if p.rule == 2 then changes_from (yearly_in p.one) (yearly_in p.other) p.skip else []

-- The zone of these bytes and parts. Its changes are those of the file, and then the changes of the
-- rule, if the parts have one.
abbrev pub zone_of_parts : List ℕ → CheckedParts → Timeline
zone_of_parts bytes p = record { first = local_type_in p.first; changes = changes_in bytes p.layout ++ changes_by_rule p }

abbrev pub zone_in : CheckedZone → Timeline
zone_in c = zone_of_parts c.bytes.now c.parts

-- There are a month and a weekday with these indexes.
abbrev pub HasPlaces : ZoneYearly → Type 0
HasPlaces r = (r.month < 12) × (r.weekday < 7)

-- The two changes are a rule.
pub record HasRule (p : CheckedParts) : Type 0 where
  pub first : HasPlaces p.one
  pub second : HasPlaces p.other
  pub calm : IsCalm (yearly_in p.one) (yearly_in p.other)

-- The mark of the parts says whether there is a rule. If there is one, the two changes are a rule.
abbrev pub HasRuleOrNone : CheckedParts → Type 0
HasRuleOrNone p = (p.rule ≡ 1) ⊎ ((p.rule ≡ 2) × HasRule p)

-- The bytes have all changes of the parts, which have a rule or none. Each call rejects bytes and
-- parts without this.
pub record HasParts (bytes : List ℕ) (p : CheckedParts) : Type 0 where
  pub readable : IsReadable bytes p.layout
  pub skip : p.skip ≤ 3_999_998
  pub rule : HasRuleOrNone p

abbrev pub HasZone : CheckedZone → Type 0
HasZone c = HasParts c.bytes.now c.parts

-- The struct has a zone, and its changes are in order. This holds for all parts that a call makes
-- without an error, with the bytes that it makes them from. No call tests it again.
pub record IsChecked (c : CheckedZone) : Type 0 where
  pub parts : HasZone c
  pub order : InOrder (zone_in c)

-- A call that takes a zone: one result for the zone of a checked struct, and another for a struct
-- without a zone.
pub record IsForZone (c : CheckedZone) (Then : Timeline → Type 0) (Else : Type 0) : Type 0 where
  pub zone : IsChecked c → Then (zone_in c)
  pub error : (HasZone c → ⊥) → Else

-- ---- parsing
-- The status of an error.
abbrev pub timeline_status : TimelineError → ℤ
timeline_status (timeline.Change FirstOffset) = INVALID_LOCAL_TYPE
timeline_status (timeline.Change (Offset k)) = INVALID_LOCAL_TYPE
timeline_status (timeline.Change (Instant k)) = CHANGES_OUT_OF_ORDER
timeline_status (timeline.Change (NotRising k)) = CHANGES_OUT_OF_ORDER
timeline_status (timeline.Change (Overlap k)) = OVERLAPPING_CHANGES
timeline_status timeline.Junction = OVERLAPPING_CHANGES

abbrev pub zone_status : ZoneErrorKind → ℤ
zone_status kinds.Truncated = UNEXPECTED_END
zone_status kinds.Magic = NOT_A_ZONE_FILE
zone_status kinds.Version = UNSUPPORTED_VERSION
zone_status kinds.LeapSeconds = LEAP_SECONDS
zone_status kinds.NoType = MISSING_LOCAL_TYPE
zone_status kinds.TypeIndex = INVALID_TYPE_INDEX
zone_status kinds.Offset = INVALID_LOCAL_TYPE
zone_status kinds.Daylight = INVALID_LOCAL_TYPE
zone_status kinds.NameIndex = INVALID_ABBREVIATION
zone_status kinds.NotAscii = INVALID_ABBREVIATION
zone_status kinds.NameEnd = INVALID_ABBREVIATION
zone_status (kinds.Timeline error) = timeline_status error
zone_status kinds.Newline = MISSING_NEWLINE
zone_status kinds.Name = INVALID_ABBREVIATION
zone_status kinds.PosixOffset = INVALID_POSIX_OFFSET
zone_status kinds.Day = INVALID_RULE_DAY
zone_status kinds.Time = INVALID_RULE_TIME
zone_status kinds.Months = MONTHS_TOO_CLOSE
zone_status kinds.Trailing = TRAILING_BYTES

-- The result has the parts of this zone.
pub record IsPartsOf (bytes : List ℕ) (z : Timeline) (r : PartsResult) : Type 0 where
  pub status : r.status ≡ OK
  pub unused : r.unused ≡ 0
  pub position : r.position ≡ no_position
  pub parts : HasParts bytes r.parts
  pub zone : zone_of_parts bytes r.parts ≡ z

-- The result has this error, and parts that each call rejects with any bytes.
pub record IsPartsError (e : ZoneError) (r : PartsResult) : Type 0 where
  pub status : r.status ≡ zone_status e.kind
  pub unused : r.unused ≡ 0
  pub position : r.position ≡ e.position
  pub rejected : (bytes : List ℕ) → HasParts bytes r.parts → ⊥

-- The result for bytes, by a relation to their zone and a relation to their error: the parts of a
-- zone whose changes are in order, or an error.
pub data IsMade (bytes : List ℕ) (Says : Timeline → Type 0) (Fails : ZoneError → Type 0) (r : PartsResult) : Type 0 where
  zone : (z : Timeline) → Says z → InOrder z → IsPartsOf bytes z r → IsMade bytes Says Fails r
  error : (e : ZoneError) → Fails e → IsPartsError e r → IsMade bytes Says Fails r

-- ---- instants
-- 1 for daylight saving time, else 0.
abbrev pub daylight_number : Bool → ℕ
daylight_number is_daylight = if is_daylight then 1 else 0

-- The result with a local time type, whose abbreviation is in the bytes of the zone, or with an
-- error.
abbrev pub local_type_ok : List ℕ → LocalType → LocalTypeResult
local_type_ok bytes t = record {
  status = OK;
  offset = t.offset;
  is_daylight = daylight_number t.is_daylight;
  unused = 0;
  abbreviation = t.name_start;
  abbreviation_length = length (abbreviation bytes t.name_start t.name_end);
}

abbrev pub local_type_error : ℤ → LocalTypeResult
local_type_error s = record { status = s; offset = no_value; is_daylight = 0; unused = 0; abbreviation = no_position; abbreviation_length = 0 }

-- The result is the Unix time of the next or the previous change, or out of range without one.
pub data IsNextResult (z : Timeline) (seconds : ℤ) (r : Int64Result) : Type 0 where
  change : (c : Change) → IsNextChange z seconds c → r ≡ int64_ok c.at → IsNextResult z seconds r
  none : NoNextChange z seconds → r ≡ int64_error RESULT_OUT_OF_RANGE → IsNextResult z seconds r

pub data IsPreviousResult (z : Timeline) (seconds : ℤ) (r : Int64Result) : Type 0 where
  change : (c : Change) → IsPreviousChange z seconds c → r ≡ int64_ok c.at → IsPreviousResult z seconds r
  none : NoPreviousChange z seconds → r ≡ int64_error RESULT_OUT_OF_RANGE → IsPreviousResult z seconds r

-- The result is the same instant by the clocks of the zone.
abbrev pub IsMomentInZone : Timeline → LocalAndOffset → MomentResult → Type 0
IsMomentInZone z m r =
    let offset = zones.offset_at z (unix_seconds (instant m)) in IsMomentOrError RESULT_OUT_OF_RANGE (local_at (instant m) offset) offset r

-- ---- strings
-- The string of a local date-time at an offset, with an abbreviation of at most 15 bytes.
pub record IsPrintedAt (a : List ℕ) (local offset : ℤ) (items : List Item) (old new : List ℕ) (r : LengthResult) : Type 0 where
  pub out_of_range : (IsDateTime local → ⊥) → IsUnprinted old new r (length_error RESULT_OUT_OF_RANGE)
  pub unsupported_item : IsDateTime local → 15 < length a → IsUnprinted old new r (length_error UNSUPPORTED_ITEM)
  pub text : IsDateTime local → length a ≤ 15 → IsWritten (text_in_zone a items (moment_of_offset_date_time (record { local = local; offset = offset }))) old new r

-- The string of the same instant by the clocks of the zone.
abbrev pub IsPrintedInZone : List ℕ → Timeline → LocalAndOffset → List Item → List ℕ → List ℕ → LengthResult → Type 0
IsPrintedInZone bytes z m items old new r =
    let kind = zones.kind_at z (unix_seconds (instant m)) in
    IsPrintedAt (abbreviation bytes kind.name_start kind.name_end) (local_at (instant m) kind.offset) kind.offset items old new r

-- ---- readings
-- The instants are exactly those at which clocks show the reading, in seconds.
pub record AreInstantsOf (z : Timeline) (reading : ℤ) (its : Instants) : Type 0 where
  pub set : (i : ℤ) → Names its i ↔ (zones.local_at z i ≡ reading)
  pub explained : IsExplained z reading its

-- The offset at an instant that shows a reading is the reading less the instant.
abbrev pub instants_ok : ℕ → ℤ → ℤ → ℤ → LocalResult
instants_ok kind reading earlier later =
    record { status = OK; kind = kind; earlier = earlier; later = later; earlier_offset = reading -ℤ earlier; later_offset = reading -ℤ later }

-- In a gap the reading is moved back by the offset after it, and forward by the offset before it.
abbrev pub gap_ok : ℤ → ℤ → ℤ → LocalResult
gap_ok reading before after =
    record { status = OK; kind = 2; earlier = reading -ℤ after; later = reading -ℤ before; earlier_offset = before; later_offset = after }

-- The result with the instants of a reading, or with an error.
abbrev pub local_ok : ℤ → Instants → LocalResult
local_ok reading (instants.Single i) = instants_ok 1 reading i i
local_ok reading (instants.Gap at before after) = gap_ok reading before after
local_ok reading (instants.Fold earlier later) = instants_ok 3 reading earlier later

abbrev pub local_error : ℤ → LocalResult
local_error s = record {
  status = s;
  kind = 0;
  earlier = neg_ℤ (pos 9_223_372_036_854_775_808);
  later = neg_ℤ (pos 9_223_372_036_854_775_808);
  earlier_offset = no_value;
  later_offset = no_value;
}

-- The result has the instants at which clocks show the reading.
abbrev pub IsResolved : Timeline → ℤ → LocalResult → Type 0
IsResolved z reading r = (its : Instants) × AreInstantsOf z reading its × (r ≡ local_ok reading its)

-- ---- policies
-- Policies are numbered from 0, `Compatible`, to 3, `Reject`.
abbrev pub policy_number : Policy → ℕ
policy_number Compatible = 0
policy_number Earlier = 1
policy_number Later = 2
policy_number Reject = 3

abbrev pub IsPolicy : ℕ → Type 0
IsPolicy k = k ≤ 3

-- The status of a reading that means nothing by a policy.
abbrev pub local_time_status : LocalTimeError → ℤ
local_time_status Skipped = SKIPPED_TIME
local_time_status Repeated = REPEATED_TIME
local_time_status OutOfRange = RESULT_OUT_OF_RANGE

-- The result with a moment, or with an error.
abbrev pub moment_or_error : Result LocalAndOffset LocalTimeError → MomentResult
moment_or_error (Ok m) = moment_ok m
moment_or_error (Err e) = moment_error (local_time_status e)

-- The result is the moment of a reading by a policy, or an error if it has none.
abbrev pub IsMomentByPolicy : Timeline → ℤ → Policy → MomentResult → Type 0
IsMomentByPolicy z reading policy r = (local : Local) × IsLocalOf z reading local × (r ≡ moment_or_error (moment_by policy local))

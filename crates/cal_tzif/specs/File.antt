-- TZif files (RFC 9636, 3): two headers, each before its data block, and a footer between newlines.
use Rattle.std.specs.Prelude.{◌≡◌, ◌≢◌, ℕ, ◌+◌, ◌-◌, ◌*◌, ◌<◌, List, [], length, take, slice_index, nat_lt, Option, Some, None, if◌then◌else◌}
use Rattle.cal_zone.specs.declared.change_error.ChangeError.TheVariants.{FirstOffset, Offset, Instant, NotRising, Overlap}
use Rattle.cal_zone.specs.declared.layout.Layout.{Layout}
use Rattle.cal_zone.specs.declared.local_type.LocalType.{LocalType}
use Rattle.cal_zone.specs.declared.rule.Rule.{Rule}
use Rattle.cal_zone.specs.declared.timeline_error.TimelineError.{TimelineError}
use Rattle.cal_zone.specs.declared.timeline_error.TimelineError.TheVariants as timeline
use Rattle.cal_zone.specs.Table.{type_in, changes_in, HasNoType}
use Rattle.cal_zone.specs.Timeline.{Timeline, IsOrdered}
use Rattle.cal_zone.specs.Zone.{zone_of, IsTimelineError}
use Rattle.cal_tzif.specs.declared.footer.Footer.{Footer}
use Rattle.cal_tzif.specs.declared.zone_error.ZoneError.{ZoneError}
use Rattle.cal_tzif.specs.declared.zone_error.ZoneErrorKind.TheVariants as kinds
use Rattle.cal_tzif.specs.Header.{HasHeaders, IsHeadersError, layout_of, second_header}
use Rattle.cal_tzif.specs.Posix.{Spells}
use Rattle.cal_tzif.specs.PosixError.{error_at, IsTextError}
use Rattle.cal_tzif.specs.Types.{HasTypes, IsTypesError}

-- The footer lies between two newlines, of which the second ends the file. It may be empty.
pub record HasNewlines (bytes : List ℕ) (at : ℕ) : Type 0 where
  pub room : at + 1 < length bytes
  pub first : slice_index bytes at ≡ 10
  pub last : slice_index bytes (length bytes - 1) ≡ 10

-- The bytes before the last one.
abbrev pub without_last : List ℕ → List ℕ
without_last bytes = take (length bytes - 1) bytes

-- The text from a position to the last newline is empty, or spells the footer.
abbrev pub IsFooterText : List ℕ → ℕ → Option Footer → Type 0
IsFooterText bytes at None = at + 1 ≡ length bytes
IsFooterText bytes at (Some f) = (at + 1 ≢ length bytes) × Spells (without_last bytes) at f

-- From a position on, the bytes are a newline, this footer and a newline.
pub record HasFooter (bytes : List ℕ) (at : ℕ) (footer : Option Footer) : Type 0 where
  pub newlines : HasNewlines bytes at
  pub text : IsFooterText bytes (at + 1) footer

-- The first error of bytes that have no footer at a position.
pub data IsFooterError (bytes : List ℕ) (at : ℕ) (e : ZoneError) : Type 0 where
  first : slice_index bytes at ≢ 10 → e ≡ error_at kinds.Newline at → IsFooterError bytes at e
  last : slice_index bytes at ≡ 10 → ¬ (HasNewlines bytes at) → e ≡ error_at kinds.Newline (length bytes) → IsFooterError bytes at e
  text : HasNewlines bytes at → at + 2 ≢ length bytes → IsTextError (without_last bytes) (at + 1) e → IsFooterError bytes at e

-- The rule of a footer, if it has one.
abbrev pub footer_rule : Option Footer → Option Rule
footer_rule None = None
footer_rule (Some f) = f.rule

-- The type before the first change of a rule, or the standard type without a rule.
abbrev pub rule_type : LocalType → Option Rule → LocalType
rule_type standard None = standard
rule_type standard (Some rule) = rule.other.kind

-- The type before the first change of a footer's rule, or this type without a footer.
abbrev pub footer_type : LocalType → Option Footer → LocalType
footer_type kind None = kind
footer_type kind (Some f) = rule_type f.standard f.rule

-- Before the first change clocks have the first type of the file. Without changes the footer says
-- how they are set, if there is one.
abbrev pub first_type : List ℕ → Layout → Option Footer → LocalType
first_type bytes p footer = if nat_lt 0 p.changes then type_in bytes p 0 else footer_type (type_in bytes p 0) footer

-- The zone of a file with this layout and this footer.
abbrev pub zone_in : List ℕ → Layout → Option Footer → Timeline
zone_in bytes p footer = zone_of (first_type bytes p footer) (changes_in bytes p) (footer_rule footer)

-- Each change has the index of a type.
abbrev pub HasIndexes : List ℕ → Layout → Type 0
HasIndexes bytes p = (k : ℕ) → k < p.changes → slice_index bytes (p.indexes + k) < p.kinds

-- The bytes are the file of this zone. Its parts are in range, and its changes are in order.
pub record IsFile (bytes : List ℕ) (zone : Timeline) : Type 0 where
  pub headers : HasHeaders bytes
  pub types : HasTypes bytes (layout_of bytes)
  pub footer : Option Footer
  pub text : HasFooter bytes (second_header bytes).end footer
  pub indexes : HasIndexes bytes (layout_of bytes)
  pub zone_is : zone ≡ zone_in bytes (layout_of bytes) footer
  pub ordered : IsOrdered zone.first.offset zone.changes

-- The position of the part of a change that has an error, or of the types for the first offset. If
-- the rule's next change overlaps the last change, it is the position of the footer, one byte after
-- `end`.
abbrev pub timeline_position : Layout → ℕ → TimelineError → ℕ
timeline_position p end (timeline.Change FirstOffset) = p.types
timeline_position p end (timeline.Change (Offset k)) = p.indexes + k
timeline_position p end (timeline.Change (Instant k)) = p.times + 8 * k
timeline_position p end (timeline.Change (NotRising k)) = p.times + 8 * k
timeline_position p end (timeline.Change (Overlap k)) = p.times + 8 * k
timeline_position p end timeline.Junction = end + 1

-- The first error of bytes that are not a file of a zone: of the headers, the types, the footer,
-- the indexes of the types, and the order of the changes.
pub data IsFileError (bytes : List ℕ) (e : ZoneError) : Type 0 where
  headers : IsHeadersError bytes e → IsFileError bytes e
  types : HasHeaders bytes → IsTypesError bytes (layout_of bytes) e → IsFileError bytes e
  footer : HasHeaders bytes → HasTypes bytes (layout_of bytes) → IsFooterError bytes (second_header bytes).end e → IsFileError bytes e
  index : HasHeaders bytes → HasTypes bytes (layout_of bytes) → (footer : Option Footer) → HasFooter bytes (second_header bytes).end footer → (position : ℕ)
      → HasNoType bytes (layout_of bytes) position → e ≡ error_at kinds.TypeIndex position → IsFileError bytes e
  order : HasHeaders bytes → HasTypes bytes (layout_of bytes) → (footer : Option Footer) → HasFooter bytes (second_header bytes).end footer → HasIndexes bytes (layout_of bytes) → (t : TimelineError)
      → IsTimelineError (first_type bytes (layout_of bytes) footer) (changes_in bytes (layout_of bytes)) (footer_rule footer) t
      → e ≡ error_at (kinds.Timeline t) (timeline_position (layout_of bytes) (second_header bytes).end t) → IsFileError bytes e

-- A text is the POSIX text of a zone, which has only the changes of its rule.
pub record IsPosix (text : List ℕ) (zone : Timeline) : Type 0 where
  pub footer : Footer
  pub spelled : Spells text 0 footer
  pub zone_is : zone ≡ zone_of (rule_type footer.standard footer.rule) [] footer.rule

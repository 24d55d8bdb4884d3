-- The events of a calendar whose lines are unfolded (RFC 5545, sections 3.4, 3.6 and 3.6.1). A
-- component begins with a line `BEGIN:` and its name, and ends with a line `END:` and its name. Names
-- match in any case. An event is a component `VEVENT` outside of other events, and can have components
-- in it, such as `VALARM`.
use Rattle.std.specs.Prelude.{◌≡◌, ◌⊎◌, ◌≤◌, ℕ, ◌+◌, ◌-◌, ◌==◌, ◌&&◌, Bool, true, false, List, [], ◌∷◌, ◌++◌, codes, drop, length, position, slice_get, take, Option, Some, None, option_map, MatchOption, MatchResult, Result, if◌then◌else◌}
use Rattle.cal_recurrence.specs.SetText.{lines_of, size_of}
use Rattle.cal_recurrence.specs.Words.{front_at, is_alike, parts_at, parts_left}
use Rattle.cal_ics.specs.declared.event.Event.{Event}
use Rattle.cal_ics.specs.declared.search.Begin.{Begin}
use Rattle.cal_ics.specs.declared.search.End.{End}
use Rattle.cal_ics.specs.declared.event_error.ParseEventError.{ParseEventError}
use Rattle.cal_ics.specs.declared.event_error.ParseEventErrorKind.TheVariants.{Unclosed, OtherEnd}

-- ---- lines
-- A line begins or ends a component: its name is `BEGIN` or `END`.
abbrev pub begins : List ℕ → Bool
begins line = is_alike (front_at 58 line) (codes "BEGIN")

abbrev pub ends : List ℕ → Bool
ends line = is_alike (front_at 58 line) (codes "END")

-- A line begins or ends an event.
abbrev pub begins_event : List ℕ → Bool
begins_event line = is_alike line (codes "BEGIN:VEVENT")

abbrev pub ends_event : List ℕ → Bool
ends_event line = is_alike line (codes "END:VEVENT")

-- The number of open components after a line, if `depth` are open before it.
abbrev pub depth_after : ℕ → List ℕ → ℕ
depth_after depth line = if begins line then depth + 1 else if ends line then depth - 1 else depth

-- A line ends the last open component.
abbrev pub is_last : ℕ → List ℕ → Bool
is_last depth line = depth == 1 && ends line

-- The number of lines before the one that ends the last open component, if there is such a line.
abbrev pub lines_within : ℕ → List (List ℕ) → Option ℕ
lines_within depth [] = None
lines_within depth (line ∷ lines) = if is_last depth line then Some 0 else option_map (λ n. n + 1) (lines_within (depth_after depth line) lines)

-- ---- the first event of a text
-- The index of the line that begins the first event, if the text has one.
abbrev pub first_begin : List ℕ → Option ℕ
first_begin text = position begins_event (lines_of text)

-- The number of lines of an event that begins at a line, if it has an end.
abbrev pub event_size : List ℕ → ℕ → Option ℕ
event_size text begin = lines_within 1 (drop (begin + 1) (lines_of text))

-- The position of the first byte of a line.
abbrev pub line_start : List ℕ → ℕ → ℕ
line_start text k = size_of (take k (parts_at 10 text))

-- The first event begins at line `begin` of a text, and has `size` lines, which end with a line feed
-- each. The rest of the text comes after its line `END:VEVENT`.
pub record IsEvent (text : List ℕ) (begin size : ℕ) (e : Event) : Type 0 where
  pub first : first_begin text ≡ Some begin
  pub closed : event_size text begin ≡ Some size
  pub end : option_map ends_event (slice_get (lines_of text) (begin + 1 + size)) ≡ Some true
  pub position : e.position ≡ line_start text (begin + 1)
  pub lines : parts_at 10 e.lines.now ≡ take size (drop (begin + 1) (parts_at 10 text)) ++ [] ∷ []
  pub rest : parts_left 10 e.rest ≡ drop (begin + 1 + size + 1) (parts_at 10 text)

-- The first event has no end.
pub record IsUnclosed (text : List ℕ) (e : ParseEventError) : Type 0 where
  pub begin : ℕ
  pub first : first_begin text ≡ Some begin
  pub no_end : event_size text begin ≡ None
  pub is : e ≡ record { position = line_start text begin; reason = Unclosed }

-- The line that ends the first event isn't `END:VEVENT`.
pub record HasOtherEnd (text : List ℕ) (e : ParseEventError) : Type 0 where
  pub begin : ℕ
  pub size : ℕ
  pub first : first_begin text ≡ Some begin
  pub closed : event_size text begin ≡ Some size
  pub end : option_map ends_event (slice_get (lines_of text) (begin + 1 + size)) ≡ Some false
  pub is : e ≡ record { position = line_start text (begin + 1 + size); reason = OtherEnd }

-- The first event of a text, no event, or an error.
abbrev pub IsFirstEvent : List ℕ → Result (Option Event) ParseEventError → Type 0
IsFirstEvent text result =
    MatchResult result
    (λ found. MatchOption found (first_begin text ≡ None) (λ event. (begin size : ℕ) × IsEvent text begin size event))
    (λ error. IsUnclosed text error ⊎ HasOtherEnd text error)

-- ---- the lines that begin and end an event
-- Line k of a text begins its first event. The parts of the text after it are left.
pub record IsBegin (text : List ℕ) (k : ℕ) (b : Begin) : Type 0 where
  pub first : first_begin text ≡ Some k
  pub position : b.position ≡ line_start text k
  pub end : b.end ≡ line_start text (k + 1)
  pub size : MatchOption b.rest (b.end ≡ length text + 1) (λ rest. b.end + length rest.now ≡ length text)
  pub rest : parts_left 10 b.rest ≡ drop (k + 1) (parts_at 10 text)

-- Line n ends an event, after the lines before it.
pub record IsEnd (text : List ℕ) (n : ℕ) (e : End) : Type 0 where
  pub closed : lines_within 1 (lines_of text) ≡ Some n
  pub position : e.position ≡ line_start text n
  pub small : e.position ≤ length text
  pub event : option_map ends_event (slice_get (lines_of text) n) ≡ Some e.is_event
  pub rest : parts_left 10 e.rest ≡ drop (n + 1) (parts_at 10 text)
  pub front : parts_at 10 (take e.position text) ≡ take n (parts_at 10 text) ++ [] ∷ []

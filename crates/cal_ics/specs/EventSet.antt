-- The lines of an event, its set and its values (RFC 5545, section 3.6.1). They come between the lines
-- that begin and end the event. Lines of components in the event aren't its own.
use Rattle.std.specs.Prelude.{◌≡◌, ◌⊎◌, ℕ, ◌<◌, ◌==◌, ◌&&◌, Bool, List, [], ◌∷◌, is_some, length, take, None, Some, Result, MatchResult, if◌then◌else◌}
use Rattle.cal_recurrence.specs.SetText.{error_at, kind_of, lines_of, parts_of, size_of, AreValid, SaysSet}
use Rattle.cal_recurrence.specs.Words.{front_outside, is_alike, parts_at, rest_outside}
use Rattle.cal_recurrence.specs.declared.set_fault.ParseSetError.{ParseSetError}
use Rattle.cal_recurrence.specs.declared.set_fault.ParseSetErrorKind.TheVariants.{Missing}
use Rattle.cal_recurrence.specs.declared.set_parts.SetParts.{SetParts}
use Rattle.cal_ics.specs.Events.{depth_after}

-- ---- the set
-- A line `DTSTART`, `RRULE`, `RDATE` or `EXDATE` of the event itself, or else an empty line.
abbrev pub set_line : ℕ → List ℕ → List ℕ
set_line depth line = if depth == 1 && is_some (kind_of line) then line else []

-- The lines of an event, if `depth` components are open before them. The lines that its set doesn't
-- have are empty.
abbrev pub set_lines : ℕ → List (List ℕ) → List (List ℕ)
set_lines depth [] = []
set_lines depth (line ∷ lines) = set_line depth line ∷ set_lines (depth_after depth line) lines

abbrev pub set_lines_of : List ℕ → List (List ℕ)
set_lines_of text = set_lines 1 (lines_of text)

-- A line is the first one of the set with an error, and begins at its position.
pub record IsSetLineError (text : List ℕ) (e : ParseSetError) : Type 0 where
  pub line : ℕ
  pub first : (k : ℕ) → k < line → error_at (set_lines_of text) k ≡ None
  pub reason : error_at (set_lines_of text) line ≡ Some e.reason
  pub position : e.position ≡ size_of (take line (parts_at 10 text))

-- No line has an error, and none is the start.
pub record HasNoStart (text : List ℕ) (e : ParseSetError) : Type 0 where
  pub valid : AreValid (set_lines_of text)
  pub start : (parts_of (set_lines_of text)).start ≡ None
  pub is : e ≡ record { position = length text; reason = Missing }

-- The lines of an event say the parts of a set, or have this error.
abbrev pub IsEventSet : List ℕ → Result SetParts ParseSetError → Type 0
IsEventSet text result = MatchResult result (SaysSet (set_lines_of text)) (λ e. IsSetLineError text e ⊎ HasNoStart text e)

-- ---- values
-- A line of the event itself has a name.
abbrev pub has_name : ℕ → List ℕ → List ℕ → Bool
has_name depth name line = depth == 1 && is_alike (front_outside 59 (front_outside 58 line)) name

-- The values of the lines with a name, if `depth` components are open before them.
abbrev pub values_within : ℕ → List ℕ → List (List ℕ) → List (List ℕ)
values_within depth name [] = []
values_within depth name (line ∷ lines) = if has_name depth name line then rest_outside 58 line ∷ values_within (depth_after depth line) name lines else values_within (depth_after depth line) name lines

abbrev pub values_named : List ℕ → List ℕ → List (List ℕ)
values_named name text = values_within 1 name (lines_of text)

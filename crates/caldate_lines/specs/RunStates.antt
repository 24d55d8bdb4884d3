-- The state of a run.
use Rattle.std.specs.Prelude.{◌≡◌, ℕ, ◌+◌, ◌-◌, ◌^◌, ◌<◌, min, Bool, true, false, List, [], ◌∷◌, ◌++◌, length, take, All, Option, None, if◌then◌else◌}
use Rattle.std.specs.List.{onto_first}
use Rattle.caldate_lines.specs.Fields.{quoting_past}
use Rattle.caldate_lines.specs.Lines.{is_end, separator_of, split_from, split_input}
use Rattle.caldate_lines.specs.Room.{longest_text}
use Rattle.caldate_lines.specs.declared.quoting.Quoting.{Quoting}
use Rattle.caldate_lines.specs.declared.quoting.Quoting.TheVariants.{Ready}
use Rattle.caldate_lines.specs.declared.on_invalid.OnInvalid.{OnInvalid}
use Rattle.caldate_lines.specs.declared.field.Field.{Field}
use Rattle.caldate_lines.specs.declared.on_invalid.OnInvalid.TheVariants as invalid
use Rattle.caldate_lines.specs.declared.progress.Progress.{Progress}
use Rattle.caldate_lines.specs.declared.tally.Tally.{Tally}

-- A reply to a line, by the number of lines before it, and the tally before and after it.
abbrev pub Replies : Type 1
Replies = ℕ → List ℕ → List ℕ → Tally → Tally → Type 0

-- The bytes are the replies to the lines, in order, after `before` lines.
abbrev pub AreReplies : Replies → ℕ → List (List ℕ) → List ℕ → Tally → Tally → Type 0
AreReplies IsReply before [] out old new = (out ≡ []) × (new ≡ old)
AreReplies IsReply before (line ∷ lines) out old new =
    (reply rest : List ℕ) × (tally : Tally) × IsReply before line reply old tally × (out ≡ reply ++ rest)
    × AreReplies IsReply (before + 1) lines rest tally new

-- The tally of no lines.
abbrev pub no_lines : Tally
no_lines = record { lines = 0; unanswered = 0; first = None }

-- No line feed is in the bytes.
abbrev pub HasNoFeed : List ℕ → Type 0
HasNoFeed bytes = All (λ byte. is_end byte ≡ false) bytes

-- No line ends within the bytes.
abbrev pub NoEnd : Option Field → Quoting → List ℕ → Type 0
NoEnd field quoting bytes = split_from field quoting bytes ≡ bytes ∷ []

-- The first line of the bytes ends, and these come after it, whatever follows.
abbrev pub FirstEnds : Option Field → Quoting → List ℕ → List ℕ → List ℕ → Type 0
FirstEnds field quoting bytes line after = (more : List ℕ) → split_from field quoting (bytes ++ more) ≡ line ∷ split_input field (after ++ more)

-- The dropped front of a line whose rest is pending is empty. For a long line, it is longer than a
-- line may be, and the rest is not empty.
abbrev pub IsDroppedFront : Bool → List ℕ → List ℕ → Type 0
IsDroppedFront false kept pending = kept ≡ []
IsDroppedFront true kept pending = (longest_text < length kept) × (0 < length pending)

-- The quotes after these bytes.
abbrev pub quoting_in : Option Field → Quoting → List ℕ → Quoting
quoting_in field quoting bytes = quoting_past (separator_of field) quoting bytes

-- The quotes after the dropped front.
abbrev pub quoting_of : Progress → Quoting
quoting_of progress = if progress.is_long then progress.quoting else Ready

-- A long line doesn't end at its first pending byte.
abbrev pub GoesOn : Option Field → Progress → List ℕ → Type 0
GoesOn field progress pending = progress.is_long ≡ true → NoEnd field progress.quoting (take 1 pending)

-- These bytes in front of the first part.
abbrev pub onto : List ℕ → List (List ℕ) → List (List ℕ)
onto [] parts = parts
onto (byte ∷ bytes) parts = onto_first byte (onto bytes parts)

-- The bytes of a dropped front that were passed on: in mode `keep` all of them.
abbrev pub passed : OnInvalid → List ℕ → List ℕ
passed invalid.Keep kept = kept
passed mode kept = []

-- The number of a line, counted in 64 bits.
abbrev pub counted : ℕ → ℕ
counted n = min n (2 ^ 64 - 1)

-- A count and one more, at most 2^64 - 1.
abbrev pub more : ℕ → ℕ
more n = min (n + 1) (2 ^ 64 - 1)

-- The run is at a line, of which a front may have been dropped, after `before` lines.
abbrev pub AtLine : Progress → List ℕ → (ℕ → List ℕ → Type 0) → Type 0
AtLine progress line Holds =
    (kept : List ℕ) (before : ℕ) → IsDroppedFront progress.is_long kept line
    → progress.tally.lines ≡ counted before → Holds before (kept ++ line)

-- Some lines of the input are answered. The output was given their replies and the front that was
-- passed on. The bytes after the lines are pending, except for the dropped front of a long line.
pub record RunState (IsReply : Replies) (mode : OnInvalid) (field : Option Field) (input given pending : List ℕ) (progress : Progress) : Type 0 where
  pub lines : List (List ℕ)
  pub kept : List ℕ
  pub out : List ℕ
  pub cut : (more : List ℕ) → split_input field (input ++ more) ≡ lines ++ onto kept (split_from field (quoting_of progress) (pending ++ more))
  pub replies : AreReplies IsReply 0 lines out no_lines progress.tally
  pub whole : given ≡ out ++ passed mode kept
  pub held : IsDroppedFront progress.is_long kept pending
  pub goes_on : GoesOn field progress pending
  pub number : progress.tally.lines ≡ counted (length lines)

-- The run is at the same line, of which the output was given these bytes more.
abbrev pub DropsFront : Replies → OnInvalid → Option Field → List ℕ → List ℕ → Progress → Progress → List ℕ → Type 0
DropsFront IsReply mode field pending pending_now progress progress_now words =
    (input given : List ℕ) → RunState IsReply mode field input given pending progress → RunState IsReply mode field input (given ++ words) pending_now progress_now

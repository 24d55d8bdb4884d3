-- Folded lines (RFC 5545, section 3.1): a line feed (10), which a carriage return (13) can precede,
-- and a space (32) or a tab (9) after it join two lines.
use Rattle.std.specs.Prelude.{◌≡◌, ℕ, ◌<◌, ◌≤◌, length, drop, ◌+◌, ◌-◌, ◌==◌, ◌&&◌, ◌||◌, Bool, List, [], ◌∷◌, ◌++◌, take, slice_index, if◌then◌else◌}
use Rattle.std.specs.List.{join_with_byte, AllZip}
use Rattle.cal_recurrence.specs.SetText.{without_return}
use Rattle.cal_recurrence.specs.Words.{parts_at}

-- A space or a tab.
abbrev pub is_blank : ℕ → Bool
is_blank byte = (byte == 32) || (byte == 9)

-- The length of the fold with which bytes begin, or 0 without a fold.
abbrev pub fold_length : List ℕ → ℕ
fold_length bytes =
    if slice_index bytes 0 == 10 && is_blank (slice_index bytes 1) then 2 else
    if slice_index bytes 0 == 13 && (slice_index bytes 1 == 10 && is_blank (slice_index bytes 2)) then 3 else 0

-- A text, and the same text without its folds: a fold goes, and each other byte stays.
pub data IsUnfolded : List ℕ → List ℕ → Type 0 where
  end : IsUnfolded [] []
  byte : (b : ℕ) (text unfolded : List ℕ) → fold_length (b ∷ text) ≡ 0 → IsUnfolded text unfolded → IsUnfolded (b ∷ text) (b ∷ unfolded)
  fold : (text unfolded : List ℕ) → 0 < fold_length text → IsUnfolded (drop (fold_length text) text) unfolded → IsUnfolded text unfolded

-- The line ends here: a line feed, or a carriage return before one or at the end of the text.
abbrev pub is_line_end : List ℕ → Bool
is_line_end bytes = slice_index bytes 0 == 10 || (slice_index bytes 0 == 13 && (slice_index bytes 1 == 10 || length bytes == 1))

-- The rest of a line, after its first `column` bytes, and the same rest with folds. It has no fold
-- if the line has at most 75 bytes, without its end (RFC 5545, section 3.1). Else the line is filled
-- up to 75 bytes, and CR LF and a space come before the other bytes. The space begins the next line.
pub data IsFoldedLine : ℕ → List ℕ → List ℕ → Type 0 where
  short : (column : ℕ) (line : List ℕ) → column + length (without_return line) ≤ 75 → IsFoldedLine column line line
  long : (column : ℕ) (line rest : List ℕ) → 75 < column + length (without_return line) → IsFoldedLine 1 (drop (75 - column) line) rest
      → IsFoldedLine column line (take (75 - column) line ++ 13 ∷ 10 ∷ 32 ∷ rest)

-- A text, and the same text with folds in its lines.
abbrev pub IsFolded : List ℕ → List ℕ → Type 0
IsFolded text folded = (lines : List (List ℕ)) × AllZip (IsFoldedLine 0) (parts_at 10 text) lines × (folded ≡ join_with_byte 10 lines)

-- A line has at most 75 bytes without its end (RFC 5545, section 3.1).
abbrev pub IsShortLine : List ℕ → Type 0
IsShortLine text = length (without_return text) ≤ 75

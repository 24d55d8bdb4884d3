-- The zones of names: the names, and what their files say.
use Rattle.std.specs.Prelude.{⊤, ℕ, ◌==◌, ◌&&◌, ◌||◌, nat_le, not, Bool, false, is_none, List, [], ◌∷◌, ◌++◌, position, Option, Result, Ok, Err}
use Rattle.std.specs.Io.KnownBytes.{Consumes, IsAtEnd}
use Rattle.cal_tzif.specs.File.{IsFile, IsFileError}
use Rattle.cal_zone.specs.Timeline.{Timeline}
use Rattle.caldate_answers.specs.Offsets.{is_letter}
use Rattle.caldate_args.specs.declared.zones.read_zone_error.ReadZoneError.{ReadZoneError}
use Rattle.caldate_args.specs.declared.zones.read_zone_error.ReadZoneError.TheVariants.{File, Zone}

-- ---- names
-- A letter, a digit, `_`, `-`, `+` or `/`.
abbrev pub is_name_byte : ℕ → Bool
is_name_byte byte = is_letter byte || ((nat_le 48 byte && nat_le byte 57) || (byte == 95 || (byte == 45 || (byte == 43 || byte == 47))))

-- The name of a zone begins with a letter. Without a dot, its file lies in the folder.
abbrev pub is_zone_name : List ℕ → Bool
is_zone_name [] = false
is_zone_name (byte ∷ bytes) = is_letter byte && is_none (position (λ b. not (is_name_byte b)) (byte ∷ bytes))

-- ---- files
-- The path of a file in a folder. A slash is byte 47.
abbrev pub path_in : List ℕ → List ℕ → List ℕ
path_in folder name = folder ++ 47 ∷ name

-- The bytes that a reader gave up to its end are a zone, or why they are not one. After a failed
-- read nothing is known of them.
abbrev pub IsReadZone : Option (List ℕ) → Option (List ℕ) → Result Timeline ReadZoneError → Type 0
IsReadZone old new (Ok zone) = (bytes : List ℕ) × IsAtEnd new × Consumes old new bytes × IsFile bytes zone
IsReadZone old new (Err (Zone error)) = (bytes : List ℕ) × IsAtEnd new × Consumes old new bytes
    × ((zone : Timeline) → ¬ IsFile bytes zone) × IsFileError bytes error
IsReadZone old new (Err (File error)) = ⊤

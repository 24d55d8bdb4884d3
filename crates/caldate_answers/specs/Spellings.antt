-- Moments that are spelled in another way than in the six forms, and their text in one of these.
use Rattle.std.specs.Prelude.{ℕ, ◌-◌, ◌==◌, ◌||◌, nat_lt, Bool, false, List, [], ◌∷◌, ◌++◌, codes, length, take, drop, slice_index, Option, Some, None, if◌then◌else◌}
use Rattle.caldate_answers.specs.declared.reading.spelling.Spelling.{Spelling}
use Rattle.caldate_answers.specs.declared.reading.spelling.Spelling.TheVariants.{Iso, Seconds}

-- A comma (44) before the fraction becomes a point.
abbrev pub with_point : List ℕ → List ℕ
with_point text = take 19 text ++ (if slice_index text 19 == 44 then codes "." else take 1 (drop 19 text)) ++ drop 20 text

-- A plus sign or a minus sign.
abbrev pub is_sign : ℕ → Bool
is_sign byte = byte == 43 || byte == 45

-- An offset such as +0100 gets its colon, and an offset such as +01 its minutes.
abbrev pub with_colon : List ℕ → List ℕ
with_colon text =
    if is_sign (slice_index text (length text - 5)) then take (length text - 2) text ++ codes ":" ++ drop (length text - 2) text
    else text ++ (if is_sign (slice_index text (length text - 3)) then codes ":00" else [])

-- The moment of ISO 8601 in RFC 3339. A string of fewer than 20 bytes is not a moment, and stays as
-- it is.
abbrev pub iso_text : List ℕ → List ℕ
iso_text text = if nat_lt (length text) 20 then text else with_colon (with_point text)

-- The string begins with an @ (64).
abbrev pub begins_with_at : List ℕ → Bool
begins_with_at [] = false
begins_with_at (byte ∷ bytes) = byte == 64

-- Seconds since 1970 get an @, unless they have one.
abbrev pub unix_text : List ℕ → List ℕ
unix_text text = if begins_with_at text then text else codes "@" ++ text

-- The string in one of the six forms, if it has at most 60 bytes.
abbrev pub full_by : Spelling → List ℕ → Option (List ℕ)
full_by Iso text = if nat_lt 60 (length text) then None else Some (iso_text text)
full_by Seconds text = if nat_lt 60 (length text) then None else Some (unix_text text)

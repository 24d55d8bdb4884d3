-- The parts of sentences.
use Rattle.std.specs.Prelude.{ℕ, ◌+◌, ◌-◌, ◌/◌, ◌%◌, ◌≤◌, ◌==◌, ◌||◌, ◌&&◌, not, nat_le, nat_lt, Bool, List, [], ◌∷◌, ◌++◌, Option, None, Some, codes, decimal, length, position, take, if◌then◌else◌}
use Rattle.cal_units.specs.ComponentError.{component_name}
use Rattle.cal_units.specs.declared.error.Component.{Component}

-- The maximum length of a sentence in bytes.
abbrev pub max_length : ℕ
max_length = 219

-- A sentence has room for n more bytes.
abbrev pub HasRoom : ℕ → List ℕ → Type 0
HasRoom n text = length text + n ≤ max_length

-- Where an error is, counted from 0, or nothing for the maximum u64.
abbrev pub position_text : ℕ → List ℕ
position_text at = if at == 18_446_744_073_709_551_615 then [] else codes " at position " ++ decimal at

-- ---- a wrong byte
abbrev pub hex_digit : ℕ → ℕ
hex_digit n = if nat_lt n 10 then 48 + n else 65 + (n - 10)

-- A byte between quotation marks, or if it isn't printable ASCII its number in hexadecimal.
abbrev pub byte_text : ℕ → List ℕ
byte_text b =
    if nat_lt b 32 || nat_lt 126 b then codes "byte 0x" ++ hex_digit (b / 16) ∷ hex_digit (b % 16) ∷ []
    else 34 ∷ b ∷ 34 ∷ []

abbrev pub unexpected : ℕ → ℕ → List ℕ
unexpected byte at = codes "unexpected " ++ (byte_text byte ++ position_text at)

-- ---- an item of a format
-- Flags and digits of a width precede the letter of an item of strftime: # - 0 to 9 : ^ _
abbrev pub precedes_letter : ℕ → Bool
precedes_letter b = b == 35 || (b == 45 || ((nat_le 48 b && nat_le b 58) || (b == 94 || b == 95)))

-- How far the "]" of a description, or the letter of an item of strftime, is from the second byte.
abbrev pub item_end : ℕ → List ℕ → Option ℕ
item_end first rest = if first == 91 then position (λ b. b == 93) rest else position (λ b. not (precedes_letter b)) rest

abbrev pub front_of : Option ℕ → List ℕ → List ℕ
front_of (Some end) text = take (end + 2) text
front_of None text = text

-- The item that a string begins with. One that doesn't end has all bytes.
abbrev pub item_in : List ℕ → List ℕ
item_in [] = []
item_in (first ∷ rest) = front_of (item_end first rest) (first ∷ rest)

abbrev pub is_printable : ℕ → Bool
is_printable b = nat_le 32 b && nat_le b 126

abbrev pub quoted : Option ℕ → List ℕ → List ℕ
quoted (Some at) item = []
quoted None item = codes " \"" ++ (item ++ codes "\"")

-- An item in quotation marks, or nothing if it is empty, has more than 64 bytes or one that isn't printable.
abbrev pub item_text : List ℕ → List ℕ
item_text item =
    if nat_lt 0 (length item) && nat_le (length item) 64 then quoted (position (λ b. not (is_printable b)) item) item
    else []

abbrev pub unknown_item : List ℕ → ℕ → List ℕ
unknown_item text at = codes "unknown item" ++ (item_text (item_in text) ++ position_text at)

-- ---- a component of a string that isn't the component of the value
abbrev pub contradiction : Component → List ℕ
contradiction c = component_name c ++ codes " contradicts the other components"

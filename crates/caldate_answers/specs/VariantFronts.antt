-- How long the variants of items at the front of some bytes can be.
use Rattle.std.specs.Prelude.{◌≡◌, ◌⊎◌, ℕ, suc, ◌<◌, ◌≤◌, ◌==◌, Bool, false, List, [], ◌∷◌, ◌++◌, length, take, if◌then◌else◌}
use Rattle.cal_format.specs.Description.{is_space}
use Rattle.cal_format.specs.Lenient.{IsLenientlyEnded}
use Rattle.cal_format.specs.Variants.{IsVariant}
use Rattle.cal_format.specs.declared.item.Item.{Item}
use Rattle.caldate_answers.specs.Offsets.{is_digit, is_letter}
use Rattle.caldate_answers.specs.declared.scan.variant_bound.ByteClass.{ByteClass}
use Rattle.caldate_answers.specs.declared.scan.variant_bound.ByteClass.TheVariants.{Digit, Letter, Space}

-- The number of bytes that aren't white space.
abbrev pub solid_bytes : List ℕ → ℕ
solid_bytes [] = 0
solid_bytes (byte ∷ bytes) = if is_space byte then solid_bytes bytes else suc (solid_bytes bytes)

abbrev pub is_in : ByteClass → ℕ → Bool
is_in Digit byte = is_digit byte
is_in Letter byte = is_letter byte
is_in Space byte = is_space byte

-- The number of bytes of the class at the front.
abbrev pub run_length : ByteClass → List ℕ → ℕ
run_length class [] = 0
run_length class (byte ∷ bytes) = if is_in class byte then suc (run_length class bytes) else 0

abbrev pub begins_with : ℕ → List ℕ → Bool
begins_with byte [] = false
begins_with byte (first ∷ bytes) = first == byte

-- If a variant of the item and a text that can't continue it begin with n of the bytes, the variant
-- has at least n bytes, or exactly `count`, which is then positive.
abbrev pub CutsAt : Bool → Item → List ℕ → ℕ → Type 0
CutsAt after item bytes count =
    (k n : ℕ) (front rest more : List ℕ) → IsVariant after item k front → IsLenientlyEnded item rest → 0 < n → n ≤ length bytes
    → take n bytes ++ more ≡ front ++ rest → (0 < count) × ((n ≤ count) ⊎ (length front ≡ count))

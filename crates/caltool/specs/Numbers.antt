-- A number is one digit or more, optionally after a minus sign. Leading zeros and `-0` are allowed.
use Rattle.std.specs.Prelude.{ℕ, ℤ, pos, neg_ℤ, nat_abs, ◌&&◌, List, [], ◌∷◌, ◌==◌, if◌then◌else◌, Option, Some, None, option_map, option_and_then, int_le}
use Rattle.std.specs.Str.{all_ascii_digits}
use Rattle.std.specs.Str.Parse.{digits_value}

-- One digit or more.
abbrev pub natural_of : List ℕ → Option ℕ
natural_of [] = None
natural_of (d ∷ ds) = if all_ascii_digits (d ∷ ds) then Some (digits_value 10 (d ∷ ds)) else None

-- The same, optionally after a minus sign, the byte 45.
abbrev pub integer_of : List ℕ → Option ℤ
integer_of [] = None
integer_of (c ∷ cs) =
    if c == 45 then option_map (λ n. neg_ℤ (pos n)) (natural_of cs) else option_map pos (natural_of (c ∷ cs))

-- The number, if it is from low to high.
abbrev pub within : ℤ → ℤ → ℤ → Option ℤ
within low high z = if int_le low z && int_le z high then Some z else None

-- The number of a word, if it is in the range of the type.
unfoldable pub i64_of : List ℕ → Option ℤ
i64_of word = option_and_then (within (neg_ℤ (pos 9223372036854775808)) (pos 9223372036854775807)) (integer_of word)

unfoldable pub i32_of : List ℕ → Option ℤ
i32_of word = option_and_then (within (neg_ℤ (pos 2147483648)) (pos 2147483647)) (integer_of word)

unfoldable pub u8_of : List ℕ → Option ℕ
u8_of word = option_map nat_abs (option_and_then (within (pos 0) (pos 255)) (integer_of word))

unfoldable pub u16_of : List ℕ → Option ℕ
u16_of word = option_map nat_abs (option_and_then (within (pos 0) (pos 65535)) (integer_of word))

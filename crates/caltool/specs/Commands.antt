-- Commands. A line is not a command if a word is not a number of its type.
use Rattle.std.specs.Prelude.{Some, ℕ, ◌-◌, ◌&&◌, nat_le, List, [], ◌∷◌, if◌then◌else◌, Option, None, option_map, option_and_then, bytes_eq, codes}
use Rattle.std.specs.Option.{option_zip}
use Rattle.cal_time.specs.declared.Weekday.{Weekday}
use Rattle.cal_time.specs.Weekday.{weekday_of_index}
use Rattle.caltool.specs.Numbers.{i32_of, i64_of, u8_of, u16_of}
use Rattle.caltool.specs.declared.command.Command.{Command}
use Rattle.caltool.specs.declared.command.Command.TheVariants.{Julian, Ordinal, Calendar, Iso, Show, Add, Moment}

-- `julian N`: a Julian day
unfoldable pub julian_command : List (List ℕ) → Option Command
julian_command (j ∷ []) = option_map Julian (i32_of j)
julian_command words = None

-- `ordinal Y N`: a year and an ordinal
unfoldable pub ordinal_command : List (List ℕ) → Option Command
ordinal_command (y ∷ o ∷ []) = option_map (λ n. Ordinal n.0 n.1) (option_zip (i32_of y) (u16_of o))
ordinal_command words = None

-- `calendar Y M D`: a year, the number of a month and a day
unfoldable pub calendar_command : List (List ℕ) → Option Command
calendar_command (y ∷ m ∷ d ∷ []) =
    option_map (λ n. Calendar n.0 n.1.0 n.1.1) (option_zip (i32_of y) (option_zip (u8_of m) (u8_of d)))
calendar_command words = None

-- The weekday with a number, from 1, Monday, to 7, Sunday (ISO 8601).
abbrev pub weekday_from_number : ℕ → Option Weekday
weekday_from_number n = if nat_le 1 n && nat_le n 7 then Some (weekday_of_index (n - 1)) else None

-- `iso Y W D`: an ISO year, a week and the number of a weekday
unfoldable pub iso_command : List (List ℕ) → Option Command
iso_command (y ∷ w ∷ d ∷ []) =
    option_map (λ n. Iso n.0 n.1.0 n.1.1)
    (option_zip (i32_of y) (option_zip (u8_of w) (option_and_then weekday_from_number (u8_of d))))
iso_command words = None

-- `show N`: a Julian day
unfoldable pub show_command : List (List ℕ) → Option Command
show_command (j ∷ []) = option_map Show (i32_of j)
show_command words = None

-- `add N S`: a Julian day and a number of seconds
unfoldable pub add_command : List (List ℕ) → Option Command
add_command (j ∷ s ∷ []) = option_map (λ n. Add n.0 n.1) (option_zip (i32_of j) (i64_of s))
add_command words = None

-- `moment N H M S D`: a Julian day, an hour, a minute, a second and a number of seconds
unfoldable pub moment_command : List (List ℕ) → Option Command
moment_command (j ∷ h ∷ m ∷ s ∷ d ∷ []) =
    option_map (λ n. Moment n.0 n.1.0 n.1.1.0 n.1.1.1.0 n.1.1.1.1)
    (option_zip (i32_of j) (option_zip (u8_of h) (option_zip (u8_of m) (option_zip (u8_of s) (i64_of d)))))
moment_command words = None

-- A command whose name is `show`, `add` or `moment`.
unfoldable pub further_command : List ℕ → List (List ℕ) → Option Command
further_command name words =
    if bytes_eq name (codes "show") then show_command words else
    if bytes_eq name (codes "add") then add_command words else
    if bytes_eq name (codes "moment") then moment_command words else
    None

-- The command that the words of a line spell.
unfoldable pub command_of : List (List ℕ) → Option Command
command_of [] = None
command_of (name ∷ words) =
    if bytes_eq name (codes "julian") then julian_command words else
    if bytes_eq name (codes "ordinal") then ordinal_command words else
    if bytes_eq name (codes "calendar") then calendar_command words else
    if bytes_eq name (codes "iso") then iso_command words else
    further_command name words

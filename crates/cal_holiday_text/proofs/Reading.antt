-- Words and lines, read one after another.
use denote.Ref.{Bor}
use Rattle.std.proofs.Common.{◌≡◌, ℕ, ◌+◌, ◌≤◌, List, length, take, Option, Some, None}
use Rattle.cal_holidays.specs.declared.holiday_rule.HolidayRule.{HolidayRule}
use Rattle.cal_recurrence.specs.Words.{parts_at, parts_left}
use Rattle.cal_holiday_text.specs.Rules.{read_lines, read_words, rules_of}

-- the bytes that are left and the byte before them, if there are any
abbrev pub bytes_left : Option (Bor (List ℕ)) → ℕ
bytes_left None = 0
bytes_left (Some rest) = length rest.now + 1

-- the words that are left give the rule of all of them
pub record IsReading (start : ℕ) (text : List ℕ) (at : ℕ) (rule : Option HolidayRule) (left : Option (Bor (List ℕ))) : Type 0 where
  pub same : read_words at rule (parts_left 32 left) ≡ read_words start None (parts_at 32 text)
  pub size : at + bytes_left left ≡ start + length text + 1

-- the lines that are left give the rules of all of them
pub record AreReading (text : List ℕ) (room at count : ℕ) (rules : List HolidayRule) (left : Option (Bor (List ℕ))) : Type 0 where
  pub same : read_lines room at (take count rules) (parts_left 10 left) ≡ rules_of room text
  pub size : at + bytes_left left ≡ length text + 1
  pub few : count ≤ length rules

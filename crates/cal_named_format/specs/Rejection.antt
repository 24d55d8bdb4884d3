-- What a parser of texts with the names of a table returns.
use Rattle.std.specs.Prelude.{◌≡◌, ℕ, ◌<◌, List, length, Result, Ok, IfOk, IfErr, IsTrue}
use Rattle.cal_text.specs.Position.{IsPosition}
use Rattle.cal_format.specs.declared.error.ParseError.{ParseError}
use Rattle.cal_format.specs.declared.error.ParseError.TheVariants.{UnexpectedByte, UnexpectedEnd}
use Rattle.cal_format.specs.declared.item.Item.{Item}
use Rattle.cal_format.specs.declared.moment.Moment.{Moment}
use Rattle.cal_format.specs.Form.{AreNumbers}
use Rattle.cal_format.specs.Reading.{holds_time, holds_offset}
use Rattle.cal_format.specs.Rejection.{IsNumberRejection}
use Rattle.cal_format.specs.Scanning.{AreHeld}
use Rattle.cal_format.specs.Moment.{IsMoment}
use Rattle.cal_format.specs.Values.{Holds}
use Rattle.cal_names.specs.declared.names.Names.{Names}
use Rattle.cal_named_format.specs.Named.{numbered_text_in, text_in, HasFormIn}

-- The text has these numbers for the items.
pub record HasNumbersIn (t : Names) (items : List Item) (numbers text : List ℕ) : Type 0 where
  pub fit : AreNumbers items numbers
  pub text_is : text ≡ numbered_text_in t items numbers

-- An error names the position at which the text stops matching the form. If the text has the form,
-- the error is an error of its numbers.
abbrev pub IsRejectionIn : Names → List Item → List ℕ → ParseError → Type 0
IsRejectionIn t items text (UnexpectedByte p) = IsPosition (HasFormIn t items) text p × (p < length text)
IsRejectionIn t items text (UnexpectedEnd p) = IsPosition (HasFormIn t items) text p × (p ≡ length text) × ¬ HasFormIn t items text
IsRejectionIn t items text e = (numbers : List ℕ) × HasNumbersIn t items numbers text × IsNumberRejection items numbers e

-- The items print the moment as the text, and each number has at most the digits of its item and no
-- sign. The parts of the time of day and of the offset that the items don't determine are 0.
pub record IsPrintedIn (t : Names) (items : List Item) (v : Moment) (text : List ℕ) : Type 0 where
  pub in_range : IsMoment v
  pub numbers : AreHeld v items
  pub parts : IsTrue (holds_time items v.time)
  pub offset_parts : IsTrue (holds_offset items v.offset)
  pub text_is : text ≡ text_in t items v

-- The result is the moment that the items hold and print as the text, or an error.
pub record IsParsedIn (t : Names) (items : List Item) (text : List ℕ) (r : Result Moment ParseError) : Type 0 where
  pub every : (v : Moment) → Holds items v → text ≡ text_in t items v → r ≡ Ok v
  pub value : IfOk r (λ v. IsPrintedIn t items v text)
  pub error : IfErr r (IsRejectionIn t items text)

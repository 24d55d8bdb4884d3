-- The message of the program on standard error, and its status.
use Rattle.std.specs.Prelude.{◌≡◌, ◌⊎◌, ℕ, List, [], ◌∷◌, ◌++◌, codes, Option, Result, Ok, Err}
use Rattle.std.specs.Io.KnownBytes.{Appends}
use Rattle.caltool.specs.Runs.{AppendsPrefix}
use Rattle.caltool.specs.declared.fault.Fault.{Fault}
use Rattle.caltool.specs.declared.fault.Fault.TheVariants.{TooLong, Read, Write}

-- The text of an error that ended a run.
abbrev pub fault_text : Fault → List ℕ
fault_text TooLong = codes "input too long"
fault_text Read = codes "cannot read"
fault_text Write = codes "cannot write"

-- The message is empty for a run that answered its whole input, else the error and a line end, the
-- byte 10.
abbrev pub outcome_message : Result Unit Fault → List ℕ
outcome_message (Ok done) = []
outcome_message (Err fault) = fault_text fault ++ 10 ∷ []

-- The status is 0 for a run that answered its whole input, else 2.
abbrev pub exit_status : Result Unit Fault → ℕ
exit_status (Ok done) = 0
exit_status (Err fault) = 2

-- The writer took all words, or only a prefix of them because it failed.
abbrev pub WritesMessage : List ℕ → Option (List ℕ) → Option (List ℕ) → Type 0
WritesMessage words old new = Appends old new words ⊎ AppendsPrefix old new words

-- The status and the message are the status and the message of the outcome.
abbrev pub ReportsOutcome : Result Unit Fault → ℕ → Option (List ℕ) → Option (List ℕ) → Type 0
ReportsOutcome outcome status old new = (status ≡ exit_status outcome) × WritesMessage (outcome_message outcome) old new

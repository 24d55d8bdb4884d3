-- Bytes that are appended.
use Rattle.std.specs.Prelude.{◌≡◌, ℕ, Bool, true, false, List, ◌++◌, Some, None, Result, Ok, Err}
use Rattle.caldate_lines.specs.declared.no_answer.NoAnswer.{NoAnswer}
use Rattle.caldate_answers.specs.Answers.{Answer}

-- The new bytes are the old ones, and then words with this property.
abbrev pub AppendsSome : (List ℕ → Type 0) → List ℕ → List ℕ → Type 0
AppendsSome IsOne old new = (words : List ℕ) × (new ≡ old ++ words) × IsOne words

-- The new bytes are the old ones and the words that go out, if any do.
abbrev pub AppendsAnswer : (Answer → Type 0) → Result Bool NoAnswer → List ℕ → List ℕ → Type 0
AppendsAnswer Is (Ok true) old new = AppendsSome (λ words. Is (Ok (Some words))) old new
AppendsAnswer Is (Ok false) old new = (new ≡ old) × Is (Ok None)
AppendsAnswer Is (Err any) old new = (new ≡ old) × Is (Err any)

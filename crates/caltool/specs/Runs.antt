-- The bytes that a run reads and writes, if the reader and the writer know them.
use Rattle.std.specs.Prelude.{◌≡◌, ℕ, ◌<◌, ◌≤◌, List, ◌++◌, length, Option, Result, Ok, Err}
use Rattle.std.specs.Io.KnownBytes.{Appends, Consumes, IsAtEnd, Keeps}
use Rattle.caltool.specs.Answers.{out}
use Rattle.caltool.specs.declared.fault.Fault.{Fault}
use Rattle.caltool.specs.declared.fault.Fault.TheVariants.{TooLong, Read, Write}

-- The maximum length of an input.
abbrev pub max_input_bytes : ℕ
max_input_bytes = 4096

-- The reader gave this input, which is not too long, and is at its end.
pub record ReadsAll (old new : Option (List ℕ)) (input : List ℕ) : Type 0 where
  pub fits : length input ≤ max_input_bytes
  pub given : Consumes old new input
  pub ended : IsAtEnd new

-- The reader gave more bytes than the maximum.
pub record ReadsTooMany (old new : Option (List ℕ)) : Type 0 where
  pub bytes : List ℕ
  pub more : max_input_bytes < length bytes
  pub given : Consumes old new bytes

-- The writer took a prefix of the bytes, possibly empty, but not all.
pub record AppendsPrefix (old new : Option (List ℕ)) (bytes : List ℕ) : Type 0 where
  pub front : List ℕ
  pub rest : List ℕ
  pub whole : bytes ≡ front ++ rest
  pub left : 0 < length rest
  pub taken : Appends old new front

-- The bytes that a run with this outcome read and wrote.
abbrev pub IsRunResult : Result Unit Fault → Option (List ℕ) → Option (List ℕ) → Option (List ℕ) → Option (List ℕ) → Type 0
IsRunResult (Ok done) r0 r w0 w = (input : List ℕ) × ReadsAll r0 r input × Appends w0 w (out input)
IsRunResult (Err Write) r0 r w0 w = (input : List ℕ) × ReadsAll r0 r input × AppendsPrefix w0 w (out input)
IsRunResult (Err Read) r0 r w0 w = Keeps w0 w
IsRunResult (Err TooLong) r0 r w0 w = ReadsTooMany r0 r × Keeps w0 w

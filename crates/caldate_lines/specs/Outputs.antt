-- The bytes that a buffered output was given, and those that the writer took.
use Rattle.std.specs.Prelude.{◌≡◌, ℕ, ⊤, ◌<◌, Bool, true, false, List, ◌++◌, length, Option, Result, Ok, Err}
use Rattle.std.specs.Io.KnownBytes.{Appends, Consumes}
use Rattle.std.specs.declared.io.Error.{Error}
use Rattle.caldate_lines.specs.Calls.{Writes, write_failure}
use Rattle.caldate_lines.specs.declared.output.Output.{Output}
use Rattle.caldate_lines.specs.declared.run_error.RunError.{RunError}
use Rattle.caldate_lines.specs.declared.run_error.RunError.TheVariants.{Write}

-- The error is a failed write.
abbrev pub IsOfWrite : RunError → Type 0
IsOfWrite (Write kind) = ⊤
IsOfWrite other = ⊥

-- The writer took a beginning of the bytes, perhaps an empty one, but never all.
pub record AppendsFront (old new : Option (List ℕ)) (bytes : List ℕ) : Type 0 where
  pub front : List ℕ
  pub rest : List ℕ
  pub whole : bytes ≡ front ++ rest
  pub left : 0 < length rest
  pub taken : Appends old new front

-- The writer took these bytes of a page with this outcome.
abbrev pub WritesPage : List ℕ → Result Unit RunError → Option (List ℕ) → Option (List ℕ) → Type 0
WritesPage page (Ok done) old new = Appends old new page
WritesPage page (Err error) old new = IsOfWrite error × AppendsFront old new page

-- The writer took the given bytes, except for the buffered ones. After a failed write, it took a
-- beginning of them that is not all.
abbrev pub HasTaken : Result Unit RunError → List ℕ → List ℕ → Option (List ℕ) → Option (List ℕ) → Type 0
HasTaken (Ok done) given buffered old new = (written : List ℕ) × (given ≡ written ++ buffered) × Appends old new written
HasTaken (Err error) given buffered old new = IsOfWrite error × AppendsFront old new given

-- An output was given these bytes, and took the writer from one state to another.
pub record Outputs {S : Type 0} (contents : S → Option (List ℕ)) (write : S → List ℕ → Result ℕ Error → S → Type 0) (given : List ℕ) (start : S) (output : Output) (now : S) : Type 0 where
  pub taken : HasTaken output.outcome given output.buffer (contents start) (contents now)
  pub writes : Writes write start (write_failure output.outcome) now

-- The output was given no more bytes.
abbrev pub PassesOn : {S : Type 0} → (S → Option (List ℕ)) → (S → List ℕ → Result ℕ Error → S → Type 0) → Output → Output → S → S → Type 0
PassesOn {S} contents write old new s t = (given : List ℕ) (start : S) → Outputs contents write given start old s → Outputs contents write given start new t

-- If all went out, this holds at the end.
abbrev pub IfAll : Bool → Type 0 → Type 0
IfAll true P = P
IfAll false P = ⊤

-- The reader gave some bytes, which come after the old ones.
abbrev pub HasRead : Option (List ℕ) → Option (List ℕ) → List ℕ → List ℕ → Type 0
HasRead before after old new = (given : List ℕ) × Consumes before after given × (new ≡ old ++ given)

-- The effect of a run on the bytes of its reader and its writer, if they are known.
use Rattle.std.specs.Prelude.{◌≡◌, ◌⊎◌, ℕ, ◌<◌, Bool, true, List, [], ◌∷◌, ◌++◌, length, is_some, unwrap_or, Option, Some, None, Result, Ok, Err}
use Rattle.std.specs.Io.KnownBytes.{Appends, Consumes, IsAtEnd}
use Rattle.std.specs.declared.io.Error.{Error}
use Rattle.caldate_lines.specs.Calls.{Reads, Writes, has_read_failure, kind_of, write_failure}
use Rattle.caldate_lines.specs.Lines.{all_lines, ended_lines, text_of, unended}
use Rattle.caldate_lines.specs.Outputs.{AppendsFront, Outputs}
use Rattle.caldate_lines.specs.Room.{longest_text}
use Rattle.caldate_lines.specs.RunStates.{AreReplies, AtLine, IsDroppedFront, Replies, RunState, counted, no_lines, passed}
use Rattle.caldate_lines.specs.declared.output.Output.{Output}
use Rattle.caldate_lines.specs.declared.run_error.RunError.{RunError}
use Rattle.caldate_lines.specs.declared.run_error.RunError.TheVariants.{Read, Write, Stopped, Unanswered}
use Rattle.caldate_lines.specs.declared.no_answer.NoAnswer.{NoAnswer}
use Rattle.caldate_lines.specs.declared.on_invalid.OnInvalid.{OnInvalid}
use Rattle.caldate_lines.specs.declared.on_invalid.OnInvalid.TheVariants as invalid
use Rattle.caldate_lines.specs.declared.progress.Progress.{Progress}
use Rattle.caldate_lines.specs.declared.tally.Tally.{Tally}
use Rattle.caldate_lines.specs.declared.unanswered.UnansweredLine.{UnansweredLine}
use Rattle.caldate_answers.specs.Appends.{AppendsSome}
use Rattle.caldate_answers.specs.declared.request.Filter.{Filter}
use Rattle.caldate_run.specs.Inputs.{whole_lines}
use Rattle.caldate_run.specs.Replies.{EndsAt, IsOutcome, IsReplyTo, stops}

-- The new bytes are the old ones and what goes out, if anything does.
abbrev pub AppendsOut : (Option (List ℕ) → Type 0) → Bool → List ℕ → List ℕ → Type 0
AppendsOut Is goes old new = (out : Option (List ℕ)) × (new ≡ old ++ unwrap_or out []) × (goes ≡ is_some out) × Is out

-- The new bytes are the old ones and the reply to the line that the run is at, without the front
-- that was passed on.
abbrev pub AppendsReply : Replies → OnInvalid → Progress → Tally → List ℕ → List ℕ → List ℕ → Type 0
AppendsReply IsReply mode progress tally line old new =
    (kept : List ℕ) (before : ℕ) → IsDroppedFront progress.is_long kept line
    → progress.tally.lines ≡ counted before
    → AppendsSome (λ words. IsReply before (kept ++ line) (passed mode kept ++ words) progress.tally tally) old new

-- This goes out for the line that the run is at, without the front that was passed on.
abbrev pub Leaves : Filter → Progress → List ℕ → Option NoAnswer → Bool → List ℕ → List ℕ → Type 0
Leaves filter progress line why goes old new =
    (kept : List ℕ) (before : ℕ) → IsDroppedFront progress.is_long kept line → progress.tally.lines ≡ counted before
    → (out : Option (List ℕ)) × (words : List ℕ) × (new ≡ old ++ words) × (passed filter.on_invalid kept ++ words ≡ unwrap_or out [])
    × (goes ≡ is_some out) × IsOutcome filter before (text_of (kept ++ line)) why out

-- The run ends at the line that it is at, which has no answer for this reason.
abbrev pub EndsUnanswered : Filter → Progress → List ℕ → NoAnswer → Type 0
EndsUnanswered filter progress line any =
    AtLine progress line (λ before whole. (stops filter.on_invalid ≡ true) × ((out : Option (List ℕ)) × IsOutcome filter before (text_of whole) (Some any) out))

-- The writer took exactly the replies to these lines, which have this tally.
pub record AnswersAll (filter : Filter) (all : List (List ℕ)) (tally : Tally) (old new : Option (List ℕ)) : Type 0 where
  pub out : List ℕ
  pub replies : AreReplies (IsReplyTo filter) 0 all out no_lines tally
  pub taken : Appends old new out

-- The bytes of a line that are passed on before its end was read: none, or in mode `keep` a front
-- that is longer than the text of a line may be.
abbrev pub IsPassedOn : OnInvalid → List ℕ → List ℕ → Type 0
IsPassedOn invalid.Keep line front = (front ≡ []) ⊎ (longest_text < length front) × ((rest : List ℕ) × (line ≡ front ++ rest))
IsPassedOn mode line front = front ≡ []

-- The writer took a beginning of the replies to the first of these lines, and of what is passed on
-- of the next one, but never all of it. `rest` comes after the lines.
pub record AnswersFront (filter : Filter) (all : List (List ℕ)) (rest : List ℕ) (old new : Option (List ℕ)) : Type 0 where
  pub lines : List (List ℕ)
  pub next : List ℕ
  pub more : List (List ℕ)
  pub out : List ℕ
  pub front : List ℕ
  pub tally : Tally
  pub cut : all ++ rest ∷ [] ≡ lines ++ next ∷ more
  pub replies : AreReplies (IsReplyTo filter) 0 lines out no_lines tally
  pub passed : IsPassedOn filter.on_invalid next front
  pub taken : AppendsFront old new (out ++ front)

-- The writer took exactly the replies to the lines of an input that have their line feed, and what
-- is passed on of the rest.
pub record AnswersEnded (filter : Filter) (input : List ℕ) (old new : Option (List ℕ)) : Type 0 where
  pub out : List ℕ
  pub front : List ℕ
  pub tally : Tally
  pub replies : AreReplies (IsReplyTo filter) 0 (ended_lines filter.field input) out no_lines tally
  pub passed : IsPassedOn filter.on_invalid (unended filter.field input) front
  pub taken : Appends old new (out ++ front)

-- The writer took exactly the replies to the lines before the line that ends the run.
pub record StopsAt (filter : Filter) (reported : UnansweredLine) (all : List (List ℕ)) (old new : Option (List ℕ)) : Type 0 where
  pub lines : List (List ℕ)
  pub line : List ℕ
  pub more : List (List ℕ)
  pub out : List ℕ
  pub tally : Tally
  pub cut : all ≡ lines ++ line ∷ more
  pub ends : EndsAt filter (length lines) line reported
  pub replies : AreReplies (IsReplyTo filter) 0 lines out no_lines tally
  pub taken : Appends old new out

-- The reader gave an input with this property.
abbrev pub Gives : Option (List ℕ) → Option (List ℕ) → (List ℕ → Type 0) → Type 0
Gives old new P = (input : List ℕ) × Consumes old new input × P input

-- The reader gave an input. Its lines with a line feed and the bytes after them have this property,
-- or all of its lines at the end of the input.
pub record ReadsLines (filter : Filter) (old new : Option (List ℕ)) (Holds : List (List ℕ) → List ℕ → Type 0) : Type 0 where
  pub input : List ℕ
  pub given : Consumes old new input
  pub holds : Holds (ended_lines filter.field input) (unended filter.field input) ⊎ IsAtEnd new × Holds (whole_lines filter.field input) []

-- All lines of the input got their replies, and their tally has this property.
abbrev pub AnswersInput : Filter → (Tally → Type 0) → Option (List ℕ) → Option (List ℕ) → Option (List ℕ) → Option (List ℕ) → Type 0
AnswersInput filter Has r0 r w0 w =
    IsAtEnd r × Gives r0 r (λ input. (tally : Tally) × Has tally × AnswersAll filter (whole_lines filter.field input) tally w0 w)

-- A run with this outcome read and wrote these bytes.
abbrev pub IsRunResult : Filter → Result Unit RunError → Option (List ℕ) → Option (List ℕ) → Option (List ℕ) → Option (List ℕ) → Type 0
IsRunResult filter (Ok done) r0 r w0 w = AnswersInput filter (λ tally. tally.first ≡ None) r0 r w0 w
IsRunResult filter (Err (Unanswered reported)) r0 r w0 w = AnswersInput filter (λ tally. (tally ≡ reported) × (is_some tally.first ≡ true)) r0 r w0 w
IsRunResult filter (Err (Write kind)) r0 r w0 w = ReadsLines filter r0 r (λ lines rest. AnswersFront filter lines rest w0 w)
IsRunResult filter (Err Read) r0 r w0 w = Gives r0 r (λ input. AnswersEnded filter input w0 w)
IsRunResult filter (Err (Stopped reported)) r0 r w0 w = ReadsLines filter r0 r (λ lines rest. StopsAt filter reported lines w0 w)

-- A run with this outcome made these reads and writes. These bytes were read before it.
pub record HasEnded {R S : Type 0} (remaining : R → Option (List ℕ)) (read : R → Result ℕ Error → R → Type 0) (contents : S → Option (List ℕ)) (write : S → List ℕ → Result ℕ Error → S → Type 0) (filter : Filter) (most : ℕ) (before : List ℕ) (outcome : Result Unit RunError) (r0 r : R) (w0 w : S) : Type 0 where
  pub bytes : (known : Option (List ℕ)) → Consumes known (remaining r0) before → IsRunResult filter outcome known (remaining r) (contents w0) (contents w)
  pub reads : Reads read most r0 (has_read_failure outcome) r
  pub writes : Writes write w0 (write_failure outcome) w

-- ---- from the state of a run
-- A run that ends early with this error answered lines of its input.
abbrev pub EndsEarly : Filter → RunError → List (List ℕ) → List ℕ → Option (List ℕ) → Option (List ℕ) → Type 0
EndsEarly filter (Write kind) lines rest old new = AnswersFront filter lines rest old new
EndsEarly filter (Stopped reported) lines rest old new = StopsAt filter reported lines old new
EndsEarly filter other lines rest old new = ⊥

module _ {S : Type 0} (contents : S → Option (List ℕ)) (write : S → List ℕ → Result ℕ Error → S → Type 0) (filter : Filter) where
  -- Some lines of the input are answered, and the output was given their replies.
  abbrev pub HasRun : List ℕ → S → Output → S → List ℕ → Progress → Type 0
  HasRun input start output now pending progress =
      (given : List ℕ) × Outputs contents write given start output now × RunState (IsReplyTo filter) filter.on_invalid filter.field input given pending progress

  -- The run advances, for any input and any first state of the writer.
  abbrev pub Advances : Output → Output → S → S → List ℕ → List ℕ → Progress → Progress → Type 0
  Advances output output_now s t pending pending_now progress progress_now =
      (input : List ℕ) (start : S) → HasRun input start output s pending progress → HasRun input start output_now t pending_now progress_now

  -- The run ends early, over these lines of its input and the bytes after them.
  abbrev pub EndsFrom : RunError → (List ℕ → List (List ℕ)) → (List ℕ → List ℕ) → Output → S → S → List ℕ → Progress → Type 0
  EndsFrom error lines_in rest_in output s t pending progress =
      (input : List ℕ) (start : S) → HasRun input start output s pending progress
      → EndsEarly filter error (lines_in input) (rest_in input) (contents start) (contents t) × Writes write start (kind_of error) t

  -- The run ends with all of these lines of its input answered.
  abbrev pub CompletesAs : (List ℕ → List (List ℕ)) → Tally → Output → S → S → List ℕ → Progress → Type 0
  CompletesAs lines_in tally output s t pending progress =
      (input : List ℕ) (start : S) → HasRun input start output s pending progress
      → AnswersAll filter (lines_in input) tally (contents start) (contents t) × Writes write start None t

  abbrev pub CompletesLines : Tally → Output → S → S → List ℕ → Progress → Type 0
  CompletesLines = CompletesAs (all_lines filter.field)

  abbrev pub CompletesFrom : Tally → Output → S → S → List ℕ → Progress → Type 0
  CompletesFrom = CompletesAs (whole_lines filter.field)

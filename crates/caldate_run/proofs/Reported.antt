-- The steps of the files in a run.
use Rattle.std.proofs.Common.{ℕ, Bool, false, Result, refl, ◌∙◌, inl, inr}
use Rattle.std.specs.declared.io.Error.{Error}
use Rattle.caldate_lines.specs.Calls.{Gives, Reads, most_reads}
use Rattle.caldate_lines.specs.Calls.Gives.{ok, fails, again}
use Rattle.caldate_lines.specs.Calls.Reads.{no_more, given, ended, failed, too_many}
use Rattle.caldate_args.specs.Files.{FailsOrKeeps, Steps}
use Rattle.caldate_args.specs.Files.Steps.{none, some}

then : {S : Type 0} (step : S → S → Type 0) (s t end : S) → Steps step s t → Steps step t end → Steps step s end
then step s t end (none _) more = more
then step s t end (some _ mid _ first rest) more = some s mid end first (then step mid t end rest more)

-- a reader whose reads are steps of its texts
steps_given : {S T : Type 0} (texts : S → T) (step : T → T → Type 0) (retries : ℕ) (s end : S) (outcome : Result ℕ Error)
    → Gives (λ old result new. Steps step (texts old) (texts new)) retries s outcome end → Steps step (texts s) (texts end)
steps_given texts step retries s end outcome (ok _ n _ _ steps) = steps
steps_given texts step retries s end outcome (fails _ _ _ error final steps) = steps
steps_given texts step retries s end outcome (again left _ t _ error _ interrupted steps more) =
    then step (texts s) (texts t) (texts end) steps (steps_given texts step left t end outcome more)

pub steps_read : {S T : Type 0} (texts : S → T) (step : T → T → Type 0) (most : ℕ) (s end : S) (fault : Bool)
    → Reads (λ old result new. Steps step (texts old) (texts new)) most s fault end → Steps step (texts s) (texts end)
steps_read texts step most s end fault (no_more _ _) = none (texts s)
steps_read texts step most s end fault (given left n _ t _ _ positive gives more) =
    then step (texts s) (texts t) (texts end) (steps_given texts step _ s t _ gives) (steps_read texts step left t end fault more)
steps_read texts step most s end fault (ended _ _ t _ _ gives more) =
    then step (texts s) (texts t) (texts end) (steps_given texts step _ s t _ gives) (steps_read texts step most t end fault more)
steps_read texts step most s end fault (failed left _ _ error gives) = steps_given texts step _ s end _ gives
steps_read texts step most s end fault (too_many _) = none (texts s)

-- ---- steps that fail a file or write nothing
both : {E : Type 0} (a b c : Bool) (x y z : E) → FailsOrKeeps a b x y → FailsOrKeeps b c y z → FailsOrKeeps a c x z
both a b c x y z first (inl failure) = inl failure
both a b c x y z (inl failure) (inr kept) = inl (kept.0 ∙ failure)
both a b c x y z (inr kept) (inr more) = inr (more.0 ∙ kept.0, more.1 ∙ kept.1)

pub fails_or_keeps : {S E : Type 0} (flag : S → Bool) (errors : S → E) (s end : S)
    → Steps (λ old new. FailsOrKeeps (flag old) (flag new) (errors old) (errors new)) s end → FailsOrKeeps (flag s) (flag end) (errors s) (errors end)
fails_or_keeps flag errors s end (none _) = inr (refl, refl)
fails_or_keeps flag errors s end (some _ t _ step more) = both _ _ _ _ _ _ step (fails_or_keeps flag errors t end more)

-- nothing is read
pub no_reads : {S : Type 0} (read : S → Result ℕ Error → S → Type 0) (s : S) → (fault : Bool) × Reads read most_reads s fault s
no_reads read s = (false, no_more most_reads s)

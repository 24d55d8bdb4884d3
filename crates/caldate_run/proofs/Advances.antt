-- How a run advances with its output.
use Rattle.std.proofs.Common.{◌≡◌, ℕ, ◌+◌, ◌<◌, ◌++◌, false, List, [], length, Option, None, Result, Ok, Err, refl, sym, ap, subst}
use Rattle.std.specs.Prelude.{IfErr, OnOk}
use Rattle.std.specs.declared.io.Error.{Error}
use Rattle.caldate_lines.specs.Calls.{Writes, kind_of, write_failure}
use Rattle.caldate_lines.specs.Lines.{all_lines, ended_lines, unended}
use Rattle.caldate_lines.specs.Outputs.{HasTaken, IsOfWrite, Outputs, PassesOn}
use Rattle.caldate_lines.specs.RunStates.{DropsFront, FirstEnds, NoEnd, RunState, counted, quoting_of}
use Rattle.caldate_lines.specs.declared.output.Output.{Output}
use Rattle.caldate_lines.specs.declared.progress.Progress.{Progress}
use Rattle.caldate_lines.specs.declared.run_error.RunError.{RunError}
use Rattle.caldate_lines.specs.declared.run_error.RunError.TheVariants.{Read, Write, Stopped, Unanswered}
use Rattle.caldate_lines.specs.declared.tally.Tally.{Tally}
use Rattle.caldate_lines.specs.declared.unanswered.UnansweredLine.{UnansweredLine}
use Rattle.caldate_lines.proofs.Outputs.{all_taken, appended, none_failed, same_buffer}
use Rattle.caldate_answers.specs.declared.request.Filter.{Filter}
use Rattle.caldate_run.specs.Replies.{IsReplyTo}
use Rattle.caldate_run.specs.Runs.{AnswersAll, AnswersFront, AppendsReply, EndsEarly, HasRun}
use Rattle.caldate_run.proofs.Steps.{Ends, RepliesToAll, all_answered, answered, failed, held_line, last_answered, last_failed, last_stopped, stopped}

-- ---- the result of a call
pub if_err : {T : Type 0} (r : Result T RunError) (P : RunError → Type 0) → ((error : RunError) → r ≡ Err error → P error) → IfErr r P
if_err (Ok x) P h = tt
if_err (Err error) P h = h error refl

pub on_ok : (r : Result Unit RunError) (P : Type 0) → (r ≡ Ok tt → P) → OnOk r P
on_ok (Ok done) P h = h refl
on_ok (Err error) P h = tt

written_early : (filter : Filter) (error : RunError) (lines : List (List ℕ)) (rest : List ℕ) (old new : Option (List ℕ)) → IsOfWrite error → AnswersFront filter lines rest old new
    → EndsEarly filter error lines rest old new
written_early filter Read lines rest old new is front = absurd is
written_early filter (Write kind) lines rest old new is front = front
written_early filter (Stopped reported) lines rest old new is front = absurd is
written_early filter (Unanswered tally) lines rest old new is front = absurd is

module _ {S : Type 0} (contents : S → Option (List ℕ)) (write : S → List ℕ → Result ℕ Error → S → Type 0) (filter : Filter) where
  pub passes_on : (input : List ℕ) (start s t : S) (output output_now : Output) (pending : List ℕ) (progress : Progress) → PassesOn contents write output output_now s t
      → HasRun contents write filter input start output s pending progress → HasRun contents write filter input start output_now t pending progress
  passes_on input start s t output output_now pending progress passes (given, outputs, state) = (given, passes given start outputs, state)

  pub same_run : (input : List ℕ) (start now : S) (output : Output) (buffer pending : List ℕ) (progress : Progress) → buffer ≡ output.buffer
      → HasRun contents write filter input start output now pending progress
      → HasRun contents write filter input start (record { buffer = buffer; outcome = output.outcome }) now pending progress
  same_run input start now output buffer pending progress same (given, outputs, state) = (given, same_buffer contents write given start now output buffer same outputs, state)

  -- ---- one line
  pub line_answered : (input : List ℕ) (start now : S) (output : Output) (buffer pending line after : List ℕ) (progress progress_now : Progress)
      → FirstEnds filter.field (quoting_of progress) pending line after
      → AppendsReply (IsReplyTo filter) filter.on_invalid progress progress_now.tally line output.buffer buffer
      → progress_now.is_long ≡ false → progress_now.tally.lines ≡ counted (progress.tally.lines + 1)
      → HasRun contents write filter input start output now pending progress
      → HasRun contents write filter input start (record { buffer = buffer; outcome = output.outcome }) now after progress_now
  line_answered input start now output buffer pending line after progress progress_now first reply short number (given, outputs, state) =
      let r = reply state.kept (length state.lines) (held_line filter.field progress.is_long progress.quoting state.kept pending line after state.held state.goes_on first) state.number in (
        given ++ r.0,
        appended contents write given r.0 start now output buffer r.1 outputs,
        answered (IsReplyTo filter) filter.on_invalid filter.field input given r.0 pending line after progress progress_now first state r.2 short number,
      )

  -- a write failed
  pub failed_early : (input : List ℕ) (start now : S) (output : Output) (pending : List ℕ) (progress : Progress) (error : RunError) → output.outcome ≡ Err error
      → HasRun contents write filter input start output now pending progress
      → EndsEarly filter error (ended_lines filter.field input) (unended filter.field input) (contents start) (contents now) × Writes write start (kind_of error) now
  failed_early input start now output pending progress error is (given, outputs, state) =
      let taken = subst (λ outcome. HasTaken outcome given output.buffer (contents start) (contents now)) is outputs.taken in (
        written_early filter error (ended_lines filter.field input) (unended filter.field input) (contents start) (contents now) taken.0
            (failed filter input given pending (contents start) (contents now) progress taken.1 state),
        subst (λ outcome. Writes write start (write_failure outcome) now) is outputs.writes,
      )

  -- the run ends at the line
  pub stopped_early : (input : List ℕ) (start now : S) (output : Output) (pending line after : List ℕ) (progress : Progress) (reported : UnansweredLine)
      → FirstEnds filter.field (quoting_of progress) pending line after → Ends filter progress line reported → output.buffer ≡ [] → output.outcome ≡ Ok tt
      → HasRun contents write filter input start output now pending progress
      → EndsEarly filter (Stopped reported) (ended_lines filter.field input) (unended filter.field input) (contents start) (contents now) × Writes write start None now
  stopped_early input start now output pending line after progress reported first ends none done (given, outputs, state) = (
    stopped filter input given pending line after (contents start) (contents now) progress reported first ends (all_taken contents write given start now output none done outputs) state,
    none_failed contents write given start now output done outputs,
  )

  -- its front is dropped
  pub front_dropped : (input : List ℕ) (start now : S) (output : Output) (words pending pending_now : List ℕ) (progress progress_now : Progress) → output.buffer ≡ []
      → DropsFront (IsReplyTo filter) filter.on_invalid filter.field pending pending_now progress progress_now words
      → HasRun contents write filter input start output now pending progress
      → HasRun contents write filter input start (record { buffer = words; outcome = output.outcome }) now pending_now progress_now
  front_dropped input start now output words pending pending_now progress progress_now none drops (given, outputs, state) =
      (given ++ words, appended contents write given words start now output words (ap (λ b. b ++ words) (sym none)) outputs, drops input given state)

  -- ---- the last line
  -- all lines of the input got their replies
  abbrev pub HasRepliedToAll : List ℕ → S → Output → S → Tally → Type 0
  HasRepliedToAll input start output now tally = (given : List ℕ) × Outputs contents write given start output now × RepliesToAll filter input given tally

  pub none_last : (input : List ℕ) (start now : S) (output : Output) (line : List ℕ) (progress : Progress) → line ≡ []
      → HasRun contents write filter input start output now line progress → HasRepliedToAll input start output now progress.tally
  none_last input start now output line progress none (given, outputs, state) =
      let state = subst (λ (p : List ℕ). RunState (IsReplyTo filter) filter.on_invalid filter.field input given p progress) none state in
      (given, outputs, all_answered filter input given progress state)

  pub last_replied : (input : List ℕ) (start now : S) (output : Output) (buffer line : List ℕ) (progress : Progress) (tally : Tally) → NoEnd filter.field (quoting_of progress) line → 0 < length line
      → AppendsReply (IsReplyTo filter) filter.on_invalid progress tally line output.buffer buffer
      → HasRun contents write filter input start output now line progress
      → HasRepliedToAll input start (record { buffer = buffer; outcome = output.outcome }) now tally
  last_replied input start now output buffer line progress tally no_end some reply (given, outputs, state) =
      let r = reply state.kept (length state.lines) state.held state.number in (
        given ++ r.0,
        appended contents write given r.0 start now output buffer r.1 outputs,
        last_answered filter input given r.0 line progress tally no_end some state r.2,
      )

  pub all_pass_on : (input : List ℕ) (start s t : S) (output output_now : Output) (tally : Tally) → PassesOn contents write output output_now s t
      → HasRepliedToAll input start output s tally → HasRepliedToAll input start output_now t tally
  all_pass_on input start s t output output_now tally passes (given, outputs, replies) = (given, passes given start outputs, replies)

  pub completed : (input : List ℕ) (start now : S) (output : Output) (tally : Tally) → output.buffer ≡ [] → output.outcome ≡ Ok tt → HasRepliedToAll input start output now tally
      → AnswersAll filter (all_lines filter.field input) tally (contents start) (contents now) × Writes write start None now
  completed input start now output tally none done (given, outputs, replies) = (
    record { out = given; replies = replies; taken = all_taken contents write given start now output none done outputs },
    none_failed contents write given start now output done outputs,
  )

  pub failed_last : (input : List ℕ) (start now : S) (output : Output) (tally : Tally) (error : RunError) → output.outcome ≡ Err error → HasRepliedToAll input start output now tally
      → EndsEarly filter error (all_lines filter.field input) [] (contents start) (contents now) × Writes write start (kind_of error) now
  failed_last input start now output tally error is (given, outputs, replies) =
      let taken = subst (λ outcome. HasTaken outcome given output.buffer (contents start) (contents now)) is outputs.taken in (
        written_early filter error (all_lines filter.field input) [] (contents start) (contents now) taken.0
            (last_failed filter input given (contents start) (contents now) tally replies taken.1),
        subst (λ outcome. Writes write start (write_failure outcome) now) is outputs.writes,
      )

  pub stopped_last : (input : List ℕ) (start now : S) (output : Output) (line : List ℕ) (progress : Progress) (reported : UnansweredLine) → NoEnd filter.field (quoting_of progress) line
      → 0 < length line → Ends filter progress line reported → output.buffer ≡ [] → output.outcome ≡ Ok tt → HasRun contents write filter input start output now line progress
      → EndsEarly filter (Stopped reported) (all_lines filter.field input) [] (contents start) (contents now) × Writes write start None now
  stopped_last input start now output line progress reported no_end some ends none done (given, outputs, state) = (
    last_stopped filter input given line (contents start) (contents now) progress reported no_end some ends (all_taken contents write given start now output none done outputs) state,
    none_failed contents write given start now output done outputs,
  )

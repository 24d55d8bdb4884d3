-- How a run goes on from one read to the next, and how it ends.
use Rattle.std.proofs.Common.{◌≡◌, ◌+◌, ◌<◌, ◌++◌, ◌⊎◌, ℕ, Bool, false, true, List, [], Err, Ok, Option, Result, ap, append_assoc, inl, inr, refl, subst, sym, None}
use Rattle.std.specs.Prelude.{is_some, IfErr, IsErrAnd, OnOk}
use Rattle.std.specs.declared.io.Error.{Error}
use Rattle.std.specs.Io.KnownBytes.{Consumes, IsAtEnd, Keeps}
use Rattle.std.proofs.KnownBytes.{Consumes-kept, Consumes-nil, Consumes-trans, Keeps-refl}
use Rattle.std.proofs.lemmas.List.{append-nil}
use Rattle.caldate_lines.specs.Calls.{Gives, Reads, Writes, has_read_failure, is_of_read, kind_of, most_retries, write_failure}
use Rattle.caldate_lines.specs.Calls.Reads.{no_more, too_many}
use Rattle.caldate_lines.specs.Lines.{ended_lines, unended}
use Rattle.caldate_run.specs.Inputs.{whole_lines}
use Rattle.caldate_lines.specs.Outputs.{HasRead}
use Rattle.caldate_lines.specs.RunStates.{NoEnd, no_lines, quoting_of}
use Rattle.caldate_lines.specs.declared.output.Output.{Output}
use Rattle.caldate_lines.specs.declared.progress.Progress.{Progress}
use Rattle.caldate_lines.specs.declared.run_error.RunError.{RunError}
use Rattle.caldate_lines.specs.declared.run_error.RunError.TheVariants.{Read, Write, Stopped, Unanswered}
use Rattle.caldate_lines.specs.declared.tally.Tally.{Tally}
use Rattle.caldate_lines.proofs.Calls.{reads_ended, reads_failed, reads_given}
use Rattle.caldate_lines.proofs.Outputs.{all_taken, new_output, none_failed}
use Rattle.caldate_answers.specs.declared.request.Filter.{Filter}
use Rattle.caldate_run.specs.Replies.{IsReplyTo}
use Rattle.caldate_run.specs.Runs.{Advances, AnswersAll, CompletesFrom, EndsEarly, EndsFrom, HasEnded, HasRun, IsRunResult}
use Rattle.caldate_run.proofs.Steps.{begun, ended_answered, reads_more}

-- ---- from the result of a run
-- a result whose error is a failed read
pub as_read : (P : Result Unit RunError → Type 0) (r : Result Unit RunError) → IsErrAnd r (λ error. error ≡ Read) → P (Err Read) → P r
as_read P (Ok done) is h = absurd is
as_read P (Err error) is h = subst (λ error. P (Err error)) (sym is) h

-- no bytes were read after the line at which the run ended early
ends_early : (filter : Filter) (error : RunError) (input : List ℕ) (r0 r w0 w : Option (List ℕ)) → Consumes r0 r input
    → EndsEarly filter error (ended_lines filter.field input) (unended filter.field input) w0 w ⊎ IsAtEnd r × EndsEarly filter error (whole_lines filter.field input) [] w0 w
    → IsRunResult filter (Err error) r0 r w0 w
ends_early filter Read input r0 r w0 w given (inl h) = absurd h
ends_early filter Read input r0 r w0 w given (inr h) = absurd h.1
ends_early filter (Write kind) input r0 r w0 w given h = record { input = input; given = given; holds = h }
ends_early filter (Stopped reported) input r0 r w0 w given h = record { input = input; given = given; holds = h }
ends_early filter (Unanswered tally) input r0 r w0 w given (inl h) = absurd h
ends_early filter (Unanswered tally) input r0 r w0 w given (inr h) = absurd h.1

no_read_failed : (filter : Filter) (error : RunError) (lines : List (List ℕ)) (rest : List ℕ) (w0 w : Option (List ℕ)) → EndsEarly filter error lines rest w0 w → is_of_read error ≡ false
no_read_failed filter Read lines rest w0 w h = absurd h
no_read_failed filter (Write kind) lines rest w0 w h = refl
no_read_failed filter (Stopped reported) lines rest w0 w h = refl
no_read_failed filter (Unanswered tally) lines rest w0 w h = absurd h

none_of : (result : Result Unit RunError) (tally : Tally) → IfErr result (λ error. (error ≡ Unanswered tally) × (is_some tally.first ≡ true))
    → (has_read_failure result ≡ false) × (write_failure result ≡ None)
none_of (Ok done) tally err = (refl, refl)
none_of (Err error) tally err = (ap is_of_read err.0, ap kind_of err.0)

all_ended : (filter : Filter) (result : Result Unit RunError) (tally : Tally) (input : List ℕ) (r0 r w0 w : Option (List ℕ)) → OnOk result (tally.first ≡ None)
    → IfErr result (λ error. (error ≡ Unanswered tally) × (is_some tally.first ≡ true)) → IsAtEnd r → Consumes r0 r input → AnswersAll filter (whole_lines filter.field input) tally w0 w
    → IsRunResult filter result r0 r w0 w
all_ended filter (Ok done) tally input r0 r w0 w none err end given all = (end, (input, given, (tally, none, all)))
all_ended filter (Err error) tally input r0 r w0 w none err end given all =
    subst (λ f. IsRunResult filter (Err f) r0 r w0 w) (sym err.0) (end, (input, given, (tally, (refl, err.1), all)))

-- ---- from one read to the next
module _ {R S : Type 0} (remaining : R → Option (List ℕ)) (read : R → Result ℕ Error → R → Type 0) (contents : S → Option (List ℕ)) (write : S → List ℕ → Result ℕ Error → S → Type 0) (filter : Filter) where
  -- The lines of the bytes that were read before the run, and of those that it has read, are
  -- answered, except for the pending bytes. The reads that are left complete those of the run.
  abbrev pub HasRunOn : ℕ → List ℕ → R → S → ℕ → R → Output → S → List ℕ → Progress → Type 0
  HasRunOn most before r0 start left r output now pending progress =
      (given : List ℕ) × Consumes (remaining r0) (remaining r) given
      × ((failed : Bool) (end : R) → Reads read left r failed end → Reads read most r0 failed end)
      × HasRun contents write filter (before ++ given) start output now pending progress

  pub begun_with : (most : ℕ) (before : List ℕ) (r : R) (start : S) (output : Output) (progress : Progress) → output.buffer ≡ [] → output.outcome ≡ Ok tt
      → progress.is_long ≡ false → progress.tally ≡ no_lines → HasRunOn most before r start most r output start before progress
  begun_with most before r start output progress none done short no_tally =
      let state = reads_more (IsReplyTo filter) filter.on_invalid filter.field [] before [] [] progress (begun (IsReplyTo filter) filter.on_invalid filter.field progress short no_tally) in
      let run : HasRun contents write filter before start output start before progress = ([], new_output contents write start output none done, state) in
      ([], Consumes-nil (remaining r), λ failed end reads. reads, subst (λ (input : List ℕ). HasRun contents write filter input start output start before progress) (sym (append-nil before)) run)

  pub after_lines : (most left : ℕ) (before : List ℕ) (r0 r : R) (start s t : S) (output output_now : Output) (pending pending_now : List ℕ) (progress progress_now : Progress)
      → HasRunOn most before r0 start left r output s pending progress → Advances contents write filter output output_now s t pending pending_now progress progress_now
      → HasRunOn most before r0 start left r output_now t pending_now progress_now
  after_lines most left before r0 r start s t output output_now pending pending_now progress progress_now (given, taken, reads, run) advances =
      (given, taken, reads, advances (before ++ given) start run)

  -- a read gave the pending bytes some more
  after_read : (most left left_now : ℕ) (before : List ℕ) (r0 r r' : R) (start now : S) (output : Output) (pending got : List ℕ) (progress : Progress)
      → HasRunOn most before r0 start left r output now pending progress → HasRead (remaining r) (remaining r') pending got
      → ((failed : Bool) (end : R) → Reads read left_now r' failed end → Reads read left r failed end)
      → HasRunOn most before r0 start left_now r' output now got progress
  after_read most left left_now before r0 r r' start now output pending got progress (given, taken, reads, (out, outputs, state)) (more, took, same) others =
      let all = reads_more (IsReplyTo filter) filter.on_invalid filter.field (before ++ given) more out pending progress state in
      let run : HasRun contents write filter ((before ++ given) ++ more) start output now (pending ++ more) progress = (out, outputs, all) in (
        given ++ more,
        Consumes-trans (remaining r0) (remaining r) (remaining r') given more taken took,
        λ failed end left. reads failed end (others failed end left),
        subst (λ (input : List ℕ). HasRun contents write filter input start output now got progress) (append_assoc before given more)
            (subst (λ (p : List ℕ). HasRun contents write filter ((before ++ given) ++ more) start output now p progress) (sym same) run),
      )

  pub after_bytes : (most left left_now n : ℕ) (before : List ℕ) (r0 r r' : R) (start now : S) (output : Output) (pending got : List ℕ) (progress : Progress)
      → HasRunOn most before r0 start left r output now pending progress → HasRead (remaining r) (remaining r') pending got → left ≡ left_now + 1 → 0 < n
      → Gives read most_retries r (Ok n) r' → HasRunOn most before r0 start left_now r' output now got progress
  after_bytes most left left_now n before r0 r r' start now output pending got progress run more one some gives =
      after_read most left left_now before r0 r r' start now output pending got progress run more (λ failed end left.
      reads_given read _ left_now n r r' end failed one some gives left)

  pub after_end : (most left n : ℕ) (before : List ℕ) (r0 r r' : R) (start now : S) (output : Output) (pending got : List ℕ) (progress : Progress)
      → HasRunOn most before r0 start left r output now pending progress → HasRead (remaining r) (remaining r') pending got → n ≡ 0
      → Gives read most_retries r (Ok n) r' → HasRunOn most before r0 start left r' output now got progress
  after_end most left n before r0 r r' start now output pending got progress run more none gives =
      after_read most left left before r0 r r' start now output pending got progress run more (λ failed end left. reads_ended read _ n r r' end failed none gives left)

  -- ---- the end of a run
  pub ended_early : (most left : ℕ) (error : RunError) (before : List ℕ) (r0 r : R) (start s t : S) (output : Output) (pending : List ℕ) (progress : Progress)
      → HasRunOn most before r0 start left r output s pending progress → EndsFrom contents write filter error (ended_lines filter.field) (unended filter.field) output s t pending progress
      → HasEnded remaining read contents write filter most before (Err error) r0 r start t
  ended_early most left error before r0 r start s t output pending progress (given, taken, reads, run) ends =
      let end = ends (before ++ given) start run in
      record {
        bytes = λ known p. ends_early filter error (before ++ given) known (remaining r) (contents start) (contents t) (Consumes-trans known (remaining r0) (remaining r) before given p taken) (inl end.0);
        reads = subst (λ failed. Reads read most r0 failed r) (sym (no_read_failed filter error _ _ _ _ end.0)) (reads false r (no_more left r));
        writes = end.1;
      }

  pub ended_last : (most left : ℕ) (error : RunError) (before : List ℕ) (r0 r : R) (start s t : S) (output : Output) (pending : List ℕ) (progress : Progress)
      → HasRunOn most before r0 start left r output s pending progress → IsAtEnd (remaining r)
      → EndsFrom contents write filter error (whole_lines filter.field) (λ _. []) output s t pending progress
      → HasEnded remaining read contents write filter most before (Err error) r0 r start t
  ended_last most left error before r0 r start s t output pending progress (given, taken, reads, run) at_end ends =
      let end = ends (before ++ given) start run in
      record {
        bytes = λ known p. ends_early filter error (before ++ given) known (remaining r) (contents start) (contents t) (Consumes-trans known (remaining r0) (remaining r) before given p taken) (inr (at_end, end.0));
        reads = subst (λ failed. Reads read most r0 failed r) (sym (no_read_failed filter error _ _ _ _ end.0)) (reads false r (no_more left r));
        writes = end.1;
      }

  pub ended_whole : (most left : ℕ) (result : Result Unit RunError) (tally : Tally) (before : List ℕ) (r0 r : R) (start s t : S) (output : Output) (pending : List ℕ) (progress : Progress)
      → HasRunOn most before r0 start left r output s pending progress → IsAtEnd (remaining r) → CompletesFrom contents write filter tally output s t pending progress
      → OnOk result (tally.first ≡ None) → IfErr result (λ error. (error ≡ Unanswered tally) × (is_some tally.first ≡ true))
      → HasEnded remaining read contents write filter most before result r0 r start t
  ended_whole most left result tally before r0 r start s t output pending progress (given, taken, reads, run) at_end completes ok err =
      let end = completes (before ++ given) start run in
      let none = none_of result tally err in
      record {
        bytes = λ known p. all_ended filter result tally (before ++ given) known (remaining r) (contents start) (contents t) ok err at_end (Consumes-trans known (remaining r0) (remaining r) before given p taken) end.0;
        reads = subst (λ failed. Reads read most r0 failed r) (sym none.0) (reads false r (no_more left r));
        writes = subst (λ failure. Writes write start failure t) (sym none.1) end.1;
      }

  -- all answers are written, and the reads failed
  unread : (most left : ℕ) (before : List ℕ) (r0 r r' : R) (start now : S) (output : Output) (pending : List ℕ) (progress : Progress)
      → HasRunOn most before r0 start left r output now pending progress → output.buffer ≡ [] → output.outcome ≡ Ok tt → NoEnd filter.field (quoting_of progress) pending
      → Keeps (remaining r) (remaining r') → Reads read left r true r' → HasEnded remaining read contents write filter most before (Err Read) r0 r' start now
  unread most left before r0 r r' start now output pending progress (given, taken, reads, (out, outputs, state)) none done no_end keeps fails = record {
    bytes = λ known p. (
      before ++ given,
      Consumes-trans known (remaining r0) (remaining r') before given p (Consumes-kept (remaining r0) (remaining r) (remaining r') given taken keeps),
      ended_answered filter (before ++ given) out pending (contents start) (contents now) progress no_end (all_taken contents write out start now output none done outputs) state,
    );
    reads = reads true r' fails;
    writes = none_failed contents write out start now output done outputs;
  }

  pub ended_unread : (most left left_now : ℕ) (error : Error) (before : List ℕ) (r0 r r' : R) (start now : S) (output : Output) (pending : List ℕ) (progress : Progress)
      → HasRunOn most before r0 start left r output now pending progress → output.buffer ≡ [] → output.outcome ≡ Ok tt → NoEnd filter.field (quoting_of progress) pending
      → Keeps (remaining r) (remaining r') → left ≡ left_now + 1 → Gives read most_retries r (Err error) r'
      → HasEnded remaining read contents write filter most before (Err Read) r0 r' start now
  ended_unread most left left_now error before r0 r r' start now output pending progress run none done no_end keeps one gives =
      unread most left before r0 r r' start now output pending progress run none done no_end keeps (reads_failed read left left_now r r' error one gives)

  pub ended_unfinished : (most left : ℕ) (before : List ℕ) (r0 r : R) (start now : S) (output : Output) (pending : List ℕ) (progress : Progress)
      → HasRunOn most before r0 start left r output now pending progress → output.buffer ≡ [] → output.outcome ≡ Ok tt → NoEnd filter.field (quoting_of progress) pending
      → left ≡ 0 → HasEnded remaining read contents write filter most before (Err Read) r0 r start now
  ended_unfinished most left before r0 r start now output pending progress run none done no_end zero =
      unread most left before r0 r r start now output pending progress run none done no_end (Keeps-refl (remaining r))
      (subst (λ left. Reads read left r true r) (sym zero) (too_many r))

use Rattle.std.proofs.Common.{◌-◌, ◌++◌, ◌∙◌, List, ℕ, length, drop, take, take-append-drop, ap, arith, refl, subst, sym, true}
use Rattle.std.proofs.lemmas.List.{append-nil}
use Rattle.caldate_lines.specs.RunStates.{NoEnd, RunState, passed, quoting_in, quoting_of}
use Rattle.caldate_lines.specs.declared.progress.Progress.{Progress}
use Rattle.caldate_lines.proofs.Splits.{passes_front}
use Rattle.caldate_run.specs.Replies.{IsReplyTo}
use Rattle.caldate_run.proofs.Steps.{discard_long_line}
use Rattle.caldate_run.proofs.run.discard_long_line.Goals as goal

pub returns-then-len-le-MAX_KEPT-clause-advances : goal.returns-then-len-le-MAX_KEPT-clause-advances
returns-then-len-le-MAX_KEPT-clause-advances c = λ input given s.
    let filter = c.args.filter.now in
    subst (λ (bytes : List ℕ). RunState (IsReplyTo filter) filter.on_invalid filter.field input bytes c.args.input.now c.args.progress.now) (sym (ap (λ b. given ++ b) c.requires.none ∙ append-nil given)) s

pub returns-clause-no_end : goal.returns-clause-no_end
returns-clause-no_end c =
    let field = c.args.filter.now.field in
    let pending = c.args.input.now in
    let k = length pending - 1 in
    let start = quoting_of c.args.progress.now in
    let state = c.quoting_in-progress.ensures ∙ ap (λ q. quoting_in c.args.filter.now.field q (take (length c.as_bytes-bytes.result.now - 1) c.as_bytes-bytes.result.now)) c.quoting.ensures
    ∙ ap (λ (b : List ℕ). quoting_in c.args.filter.now.field (quoting_of c.args.progress.now) (take (length b - 1) b)) c.as_bytes-bytes.ensures.value in
    let last = passes_front field start (take k pending) (drop k pending) (subst (NoEnd field start) (sym (take-append-drop k pending)) c.requires.no_end) in
    subst (NoEnd field c.quoting_in-progress.result) (sym c.keep_last.ensures) (subst (λ q. NoEnd field q (drop k pending)) (sym state) last.1)

pub returns-clause-advances : goal.returns-clause-advances
returns-clause-advances c = λ input given s.
    let filter = c.args.filter.now in
    let state = c.quoting_in-progress.ensures ∙ ap (λ q. quoting_in c.args.filter.now.field q (take (length c.as_bytes-bytes.result.now - 1) c.as_bytes-bytes.result.now)) c.quoting.ensures
    ∙ ap (λ (b : List ℕ). quoting_in c.args.filter.now.field (quoting_of c.args.progress.now) (take (length b - 1) b)) c.as_bytes-bytes.ensures.value in
    let now : Progress = record { tally = c.args.progress.now.tally; is_long = true; front = c.excerpt_of-progress.result; quoting = c.quoting_in-progress.result } in
    let words = c.pass_on.ensures ∙ ap (λ (bytes : List ℕ). passed filter.on_invalid (take (length bytes - 1) bytes)) c.as_bytes-bytes.ensures.value in
    subst (λ (bytes : List ℕ). RunState (IsReplyTo filter) filter.on_invalid filter.field input (given ++ bytes) c.keep_last.new.self now) (sym words)
    (discard_long_line (IsReplyTo filter) filter.on_invalid filter.field input given c.args.input.now c.keep_last.new.self c.args.progress.now now c.requires.no_end
    (omega (arith, c.if-len-le-MAX_KEPT.false, c.len.ensures)) c.keep_last.ensures state refl refl s)

use Rattle.std.proofs.Common.{sym, subst, ap, ◌∙◌, ◌∷◌}
use Rattle.cal_text.specs.UnixText.{HasUnixForm}
use Rattle.cal_text.proofs.UnixReads.{wide-form}
use Rattle.cal_text.proofs.UnixShapes.{put_positive, put_negative}
use Rattle.cal_text.proofs.unix.parsing.scan_unix_time.Goals as goal

pub returns-in_ok-seconds-in-Some-clause-value : goal.returns-in_ok-seconds-in-Some-clause-value
returns-in_ok-seconds-in-Some-clause-value c =
    let text = c.args.scanner.now.rest.now in
    let number = c.in_ok-seconds-in-Some.ensures in
    let has = subst (HasUnixForm text) (sym c.negated_nanoseconds.ensures)
    (put_negative text _ _ _ (c.in_ok-byte.ensures.value ∙ ap (λ r. 64 ∷ r) c.in-Some.ensures.value) number.value number.found) in
    subst (HasUnixForm text) (sym (wide-form text c.negated_nanoseconds.result has)) has

pub returns-in_ok-seconds-in-None-clause-value : goal.returns-in_ok-seconds-in-None-clause-value
returns-in_ok-seconds-in-None-clause-value c =
    let text = c.args.scanner.now.rest.now in
    let has = subst (HasUnixForm text) (sym c.total_nanoseconds.ensures)
    (put_positive text _ _ _ (c.in_ok-byte.ensures.value ∙ ap (λ r. 64 ∷ r) (sym c.in-None.ensures.unchanged)) c.in_ok-seconds-in-None.ensures.value) in
    subst (HasUnixForm text) (sym (wide-form text c.total_nanoseconds.result has)) has

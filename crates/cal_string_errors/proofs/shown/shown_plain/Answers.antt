use Rattle.cal_text.specs.PlainForm.{HasPlainForm}
use Rattle.cal_iso.specs.MomentForm.{HasIsoPlain}
use Rattle.cal_string_errors.proofs.Nothing.{neither}
use Rattle.cal_string_errors.proofs.shown.shown_plain.Goals as goal

pub returns-in-None-clause-none : goal.returns-in-None-clause-none
returns-in-None-clause-none c =
    let text = c.args.text.now in
    neither c.parse_numbers-in-None.result (HasPlainForm text) (HasIsoPlain text) c.in-None.ensures.every c.parse_numbers-in-None.ensures.every

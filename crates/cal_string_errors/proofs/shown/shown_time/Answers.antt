use Rattle.cal_text.specs.TimeForm.{HasTimeForm}
use Rattle.cal_iso.specs.TimeForm.{HasIsoTime}
use Rattle.cal_string_errors.proofs.Nothing.{neither}
use Rattle.cal_string_errors.proofs.shown.shown_time.Goals as goal

pub returns-in-None-clause-none : goal.returns-in-None-clause-none
returns-in-None-clause-none c =
    let text = c.args.text.now in
    neither c.parse_numbers-in-None.result (HasTimeForm text) (HasIsoTime text) c.in-None.ensures.every c.parse_numbers-in-None.ensures.every

use Rattle.cal_text.specs.DateForms.{HasForm}
use Rattle.cal_iso.specs.DateForm.{HasIsoDate}
use Rattle.cal_string_errors.proofs.Nothing.{neither}
use Rattle.cal_string_errors.proofs.shown.shown_date.Goals as goal

pub returns-in-None-clause-none : goal.returns-in-None-clause-none
returns-in-None-clause-none c =
    let text = c.args.text.now in
    neither c.parse_numbers-in-None.result (HasForm text) (HasIsoDate text) c.in-None.ensures.every c.parse_numbers-in-None.ensures.every

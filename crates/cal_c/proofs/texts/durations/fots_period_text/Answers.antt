use Rattle.cal_c.proofs.Needs.{met}
use Rattle.cal_c.proofs.texts.durations.fots_period_text.Goals as goal

pub returns : goal.returns
returns c =
    let period = c.in-Some.ensures in
    met period.0 (rw (c.as_bytes.ensures.value, c.new.ensures.value, period.1) at c.ok.ensures)

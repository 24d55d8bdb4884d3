use Rattle.cal_text.specs.Position.{HasSome}
use Rattle.cal_text.specs.Rfc3339Form.{HasMomentForm}
use Rattle.cal_text.proofs.Positions.{named}
use Rattle.caldate_answers.specs.Readings.{WithoutOffset}
use Rattle.caldate_answers.proofs.LocalShapes.{local_stop}
use Rattle.caldate_answers.proofs.reading.local.wrong_at.Goals as goal

pub overflow_sub-text : goal.overflow_sub-text
overflow_sub-text c = (local_stop c.args.text.now _ c.scan_local-form.result c.scan_local-form.ensures c.requires).within

pub returns-clause-position : goal.returns-clause-position
returns-clause-position c =
    let stop = local_stop c.args.text.now _ c.scan_local-form.result c.scan_local-form.ensures c.requires in
    named (HasSome (WithoutOffset HasMomentForm)) c.args.text.now _ c.unexpected.result stop.position c.unexpected.ensures.byte c.unexpected.ensures.end

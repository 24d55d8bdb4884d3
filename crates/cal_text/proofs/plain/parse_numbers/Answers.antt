use Rattle.cal_text.specs.PlainForm.{HasPlainForm}
use Rattle.cal_text.specs.Shape.{plain}
use Rattle.cal_text.proofs.Found.{found}
use Rattle.cal_text.proofs.PlainShapes.{plain_shape}
use Rattle.cal_text.proofs.plain.parse_numbers.Goals as goal

pub returns-clause-every : goal.returns-clause-every
returns-clause-every c = found HasPlainForm plain plain_shape _ _ _ c.scan_whole_plain.ensures.scans c.scan_whole_plain.ensures.value

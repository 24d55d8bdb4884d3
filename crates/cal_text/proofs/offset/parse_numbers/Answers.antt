use Rattle.cal_text.specs.OffsetForm.{HasOffsetForm}
use Rattle.cal_text.specs.Shape.{offset}
use Rattle.cal_text.proofs.Found.{found}
use Rattle.cal_text.proofs.OffsetShapes.{offset_shape}
use Rattle.cal_text.proofs.offset.parse_numbers.Goals as goal

pub returns-clause-every : goal.returns-clause-every
returns-clause-every c = found HasOffsetForm offset offset_shape _ _ _ c.scan_offset.ensures.scans c.scan_offset.ensures.value

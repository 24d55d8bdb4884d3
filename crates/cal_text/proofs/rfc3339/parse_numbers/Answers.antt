use Rattle.cal_text.specs.Rfc3339Form.{HasMomentForm}
use Rattle.cal_text.specs.Shape.{moment}
use Rattle.cal_text.proofs.Found.{found_large}
use Rattle.cal_text.proofs.MomentShapes.{moment_shapes}
use Rattle.cal_text.proofs.rfc3339.parse_numbers.Goals as goal

pub returns-clause-every : goal.returns-clause-every
returns-clause-every c = found_large HasMomentForm moment moment_shapes _ _ _ c.scan_numbers.ensures.scans c.scan_numbers.ensures.value

use Rattle.cal_iso.specs.IsoShape.{Plain}
use Rattle.cal_iso.specs.MomentForm.{HasIsoPlain}
use Rattle.cal_iso.proofs.LongForms.{found_long}
use Rattle.cal_iso.proofs.MomentShapes.{plain_shapes}
use Rattle.cal_iso.proofs.plain.parse_numbers.Goals as goal

pub returns-clause-every : goal.returns-clause-every
returns-clause-every c = found_long HasIsoPlain Plain plain_shapes _ _ _ c.scan_whole_plain.ensures.scans c.scan_whole_plain.ensures.value

use Rattle.cal_iso.specs.IsoShape.{Time}
use Rattle.cal_iso.specs.TimeForm.{HasIsoTime}
use Rattle.cal_iso.proofs.LongForms.{found_long}
use Rattle.cal_iso.proofs.MomentShapes.{time_shapes}
use Rattle.cal_iso.proofs.time.parse_numbers.Goals as goal

pub returns-clause-every : goal.returns-clause-every
returns-clause-every c = found_long HasIsoTime Time time_shapes _ _ _ c.scan_whole_time.ensures.scans c.scan_whole_time.ensures.value

use Rattle.cal_iso.specs.IsoShape.{Moment}
use Rattle.cal_iso.specs.MomentForm.{HasIsoMoment}
use Rattle.cal_iso.proofs.LongForms.{found_long}
use Rattle.cal_iso.proofs.MomentShapes.{moment_shapes}
use Rattle.cal_iso.proofs.offset_date_time.parse_numbers.Goals as goal

pub returns-clause-every : goal.returns-clause-every
returns-clause-every c = found_long HasIsoMoment Moment moment_shapes _ _ _ c.scan_moment.ensures.scans c.scan_moment.ensures.value

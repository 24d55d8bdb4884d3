use Rattle.cal_text.specs.Shape.{time}
use Rattle.cal_text.specs.TimeForm.{HasTimeForm}
use Rattle.cal_text.proofs.Found.{found}
use Rattle.cal_text.proofs.TimeShapes.{time_shape}
use Rattle.cal_text.proofs.time.parse_numbers.Goals as goal

pub returns-clause-every : goal.returns-clause-every
returns-clause-every c = found HasTimeForm time time_shape _ _ _ c.scan_whole_time.ensures.scans c.scan_whole_time.ensures.value

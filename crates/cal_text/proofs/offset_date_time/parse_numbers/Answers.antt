use Rattle.cal_text.specs.OffsetDateTimeForm.{HasOffsetDateTimeForm}
use Rattle.cal_text.specs.Shape.{offset_date_time}
use Rattle.cal_text.proofs.Found.{found}
use Rattle.cal_text.proofs.OffsetDateTimeShapes.{moment_shape}
use Rattle.cal_text.proofs.offset_date_time.parse_numbers.Goals as goal

pub returns-clause-every : goal.returns-clause-every
returns-clause-every c =
    found HasOffsetDateTimeForm offset_date_time moment_shape _ _ _ c.scan_offset_date_time.ensures.scans c.scan_offset_date_time.ensures.value

use Rattle.cal_text.specs.Shape.{End}
use Rattle.cal_text.proofs.Found.{found}
use Rattle.cal_iso.specs.DateForm.{HasIsoDate}
use Rattle.cal_iso.specs.IsoShape.{Date}
use Rattle.cal_iso.proofs.DateShapes.{date_shape}
use Rattle.cal_iso.proofs.date.parse_numbers.Goals as goal

pub returns-clause-every : goal.returns-clause-every
returns-clause-every c = found HasIsoDate (Date End) date_shape _ _ _ c.scan_whole_date.ensures.scans c.scan_whole_date.ensures.value

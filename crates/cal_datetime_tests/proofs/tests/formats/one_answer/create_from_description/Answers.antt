use Rattle.cal_format.specs.declared.item.Syntax.TheVariants.{Brackets}
use Rattle.cal_format.proofs.FormatErrors.{one-format}
use Rattle.cal_datetime_tests.proofs.tests.formats.one_answer.create_from_description.Goals as goal

pub returns : goal.returns
returns c =
    let first = c.from_description.ensures in
    let other = c.from_description-2.ensures in
    one-format Brackets _ _ _ first.every other.every first.value other.value first.error other.error

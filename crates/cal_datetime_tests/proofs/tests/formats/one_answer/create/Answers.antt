use Rattle.cal_format.specs.declared.item.Syntax.TheVariants.{Percent}
use Rattle.cal_format.proofs.FormatErrors.{one-format}
use Rattle.cal_datetime_tests.proofs.tests.formats.one_answer.create.Goals as goal

pub returns : goal.returns
returns c =
    let first = c.new.ensures in
    let other = c.new-2.ensures in
    one-format Percent _ _ _ first.every other.every first.value other.value first.error other.error

use Rattle.std.proofs.Common.{subst}
use Rattle.cal_format.specs.Reading.{are_date_items}
use Rattle.cal_format.specs.Text.{text_of}
use Rattle.cal_c.specs.FormatTexts.{IsPrinted}
use Rattle.cal_c.proofs.formats.printing.print_date.Goals as goal

pub returns-in-None-clause-value : goal.returns-in-None-clause-value
returns-in-None-clause-value c items h =
    subst (λ m. IsPrinted (are_date_items items) (text_of items m) c.args.bytes.now c.print_in_steps.new.bytes c.print_in_steps.result) c.of_date.ensures (c.print_in_steps.ensures.value items h)

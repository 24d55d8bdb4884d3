use Rattle.std.proofs.Common.{ap, subst, ◌∙◌}
use Rattle.cal_format.specs.Moment.{moment_of_time}
use Rattle.cal_format.specs.Reading.{are_time_items}
use Rattle.cal_format.specs.Text.{text_of}
use Rattle.cal_c.specs.FormatTexts.{IsPrinted}
use Rattle.cal_c.proofs.formats.printing.fots_time_format.Goals as goal

pub returns-clause-value : goal.returns-clause-value
returns-clause-value c _ items h =
    subst (λ m. IsPrinted (are_time_items items) (text_of items m) c.args.bytes.now c.print_moment.new.bytes c.print_moment.result) (c.of_time.ensures ∙ ap moment_of_time c.in-Some.ensures.1) (c.print_moment.ensures.value items h)

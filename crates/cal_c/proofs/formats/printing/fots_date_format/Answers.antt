use Rattle.std.proofs.Common.{◌≡◌, subst}
use Rattle.std.proofs.lemmas.Int.{to_z-of_z}
use Rattle.cal_c.specs.Values.{day_of}
use Rattle.cal_format.specs.Moment.{moment_of_date}
use Rattle.cal_format.specs.Reading.{are_date_items}
use Rattle.cal_format.specs.Text.{text_of}
use Rattle.cal_c.specs.FormatTexts.{IsPrinted}
use Rattle.cal_c.proofs.formats.printing.fots_date_format.Goals as goal

pub returns-clause-value : goal.returns-clause-value
returns-clause-value c _ items h =
    let valid : c.in-Some.value ≡ day_of c.args.date = simp (to_z-of_z, c.ranges.date) at c.in-Some.ensures.1 in
    subst (λ n. IsPrinted (are_date_items items) (text_of items (moment_of_date n)) c.args.bytes.now c.print_date.new.bytes c.print_date.result) valid (c.print_date.ensures.value items h)

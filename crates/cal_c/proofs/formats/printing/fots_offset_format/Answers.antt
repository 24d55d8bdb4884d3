use Rattle.std.proofs.Common.{◌≡◌, ap, subst, ◌∙◌}
use Rattle.std.proofs.lemmas.Int.{to_z-of_z}
use Rattle.cal_format.specs.Moment.{moment_of_offset}
use Rattle.cal_format.specs.Reading.{are_offset_items}
use Rattle.cal_format.specs.Text.{text_of}
use Rattle.cal_c.specs.FormatTexts.{IsPrinted}
use Rattle.cal_c.proofs.formats.printing.fots_offset_format.Goals as goal

pub returns-clause-value : goal.returns-clause-value
returns-clause-value c _ items h =
    let valid : c.in-Some.value ≡ c.args.offset = simp (to_z-of_z, c.ranges.offset) at c.in-Some.ensures.1 in
    subst (λ m. IsPrinted (are_offset_items items) (text_of items m) c.args.bytes.now c.print_moment.new.bytes c.print_moment.result) (c.of_offset.ensures ∙ ap moment_of_offset valid) (c.print_moment.ensures.value items h)

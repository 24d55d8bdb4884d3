use Rattle.std.proofs.Common.{ap, subst, ◌∙◌}
use Rattle.cal_format.specs.Moment.{moment_of_offset_date_time}
use Rattle.cal_format.specs.Reading.{are_moment_items}
use Rattle.cal_c.specs.NamedFormats.{IsPrintedWith}
use Rattle.cal_c.proofs.formats.named.printing.fots_moment_format_names.Goals as goal

pub returns-clause-value : goal.returns-clause-value
returns-clause-value c _ are items h =
    subst (λ m. IsPrintedWith c.args.names.now items (are_moment_items items) m c.args.bytes.now c.print_moment.new.bytes c.print_moment.result) (c.of_offset_date_time-moment.ensures ∙ ap moment_of_offset_date_time c.in-Some.ensures.1) (c.print_moment.ensures.value are items h)

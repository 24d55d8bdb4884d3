use Rattle.std.proofs.Common.{◌≡◌, ap, subst, ◌∙◌}
use Rattle.std.proofs.lemmas.Int.{to_z-of_z}
use Rattle.cal_datetime.specs.DateTime.{date_time}
use Rattle.cal_format.specs.Moment.{moment_of_date_time}
use Rattle.cal_format.specs.Reading.{are_date_time_items}
use Rattle.cal_c.specs.NamedFormats.{IsPrintedWith}
use Rattle.cal_c.specs.Values.{day_of}
use Rattle.cal_c.proofs.formats.named.printing.fots_pair_format_names.Goals as goal

pub returns-clause-value : goal.returns-clause-value
returns-clause-value c _ _ are items h =
    let valid : c.in-Some.value ≡ day_of c.args.date = simp (to_z-of_z, c.ranges.date) at c.in-Some.ensures.1 in
    let same = c.new.ensures.value ∙ ap (λ n. date_time n c.in-Some-valid_time.value) valid ∙ ap (λ t. date_time (day_of c.args.date) t) c.in-Some-valid_time.ensures.1 in
    subst (λ m. IsPrintedWith c.args.names.now items (are_date_time_items items) m c.args.bytes.now c.print_moment.new.bytes c.print_moment.result) (c.of_date_time-moment.ensures ∙ ap moment_of_date_time same) (c.print_moment.ensures.value are items h)

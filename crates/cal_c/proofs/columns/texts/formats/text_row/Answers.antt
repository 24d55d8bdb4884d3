use Rattle.std.proofs.Common.{◌≡◌, refl, ap, ◌∙◌}
use Rattle.std.proofs.lemmas.Int.{to_z-of_z}
use Rattle.cal_format.specs.Moment.{moment_of_date}
use Rattle.cal_format.specs.Text.{text_of}
use Rattle.cal_c.specs.Values.{IsJulianDay, day_of}
use Rattle.cal_c.proofs.columns.texts.formats.text_row.Goals as goal

pub returns-in-Some-print_date_at_once-clause-value : goal.returns-in-Some-print_date_at_once-clause-value
returns-in-Some-print_date_at_once-clause-value c =
    let valid : c.in-Some.value ≡ day_of c.args.date = simp (to_z-of_z, c.ranges.date) at c.in-Some.ensures.1 in
    let julian : IsJulianDay c.args.date = simp (to_z-of_z, c.ranges.date) at c.in-Some.ensures.0 in
    let is = c.in-Some-print_date_at_once.ensures.value in
    record {
      invalid_date = λ no. absurd (no julian);
      invalid_format = λ _ no. absurd (no is.format);
      unsupported_item = λ _ items has no. absurd (no (is.every items has).within);
      value = λ _ items has shown. ((is.every items has).text ∙ ap (λ n. text_of items (moment_of_date n)) valid, refl);
    }

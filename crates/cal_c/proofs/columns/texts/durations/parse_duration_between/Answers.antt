use Rattle.std.proofs.Common.{◌≡◌, subst, rules, FitsSigned, w32}
use Rattle.std.proofs.lemmas.Int.{to_z-of_z}
use Rattle.cal_c.specs.DurationColumns.{duration_row, IsParsedDuration}
use Rattle.cal_c.specs.TextColumns.{AreBoundsWithin, bytes_between}
use Rattle.cal_c.proofs.columns.texts.durations.parse_duration_between.Goals as goal

pub returns-in-Some : goal.returns-in-Some
returns-in-Some c =
    let from : FitsSigned w32 c.args.from = search rules in
    let to : FitsSigned w32 c.args.to = search rules in
    let is : AreBoundsWithin c.args.bytes.now c.args.from c.args.to × (c.in-Some.text.now ≡ bytes_between c.args.bytes.now c.args.from c.args.to) = simp to_z-of_z at c.in-Some.ensures in
    let r = c.parse_duration_row.result in
    record {
      bounds = λ no. absurd (no is.0);
      read = λ _. subst (λ t. IsParsedDuration t (duration_row r.0.seconds r.0.nanoseconds r.1)) is.1 c.parse_duration_row.ensures;
    }

use Rattle.std.proofs.Common.{◌≡◌, subst, rules, FitsSigned, w32}
use Rattle.std.proofs.lemmas.Int.{to_z-of_z}
use Rattle.cal_c.specs.Columns.{date_row}
use Rattle.cal_c.specs.IsoColumns.{IsIsoDate}
use Rattle.cal_c.specs.TextColumns.{AreBoundsWithin, bytes_between}
use Rattle.cal_c.proofs.columns.texts.iso.parse_date_between.Goals as goal

pub returns-in-Some : goal.returns-in-Some
returns-in-Some c =
    let from : FitsSigned w32 c.args.from = search rules in
    let to : FitsSigned w32 c.args.to = search rules in
    let is : AreBoundsWithin c.args.bytes.now c.args.from c.args.to × (c.in-Some.text.now ≡ bytes_between c.args.bytes.now c.args.from c.args.to) = simp to_z-of_z at c.in-Some.ensures in
    record {
      bounds = λ no. absurd (no is.0);
      read = λ _. subst (λ t. IsIsoDate t (date_row c.parse_date_row.result.0 c.parse_date_row.result.1)) is.1 c.parse_date_row.ensures;
    }

use Rattle.std.proofs.Common.{ap, refl, rules, arith, FitsSigned, w32}
use Rattle.std.proofs.lemmas.Int.{ints, to_z-of_z}
use Rattle.cal_c.proofs.RoundedRows.{duration_same, duration_unreadable, part_byte}
use Rattle.cal_c.proofs.TextRows.{IsByteOf}
use Rattle.cal_c.specs.Results.{duration_error, duration_ok}
use Rattle.cal_c.specs.DurationTexts.{duration_part_status}
use Rattle.cal_c.proofs.columns.texts.durations.parse_duration_row.Goals as goal

pub returns : goal.returns
returns c =
    let r = c.fots_duration_parse-read.result in
    let b = c.byte_status.result in
    let status : FitsSigned w32 r.status = search rules in
    let byte : IsByteOf b r.status = simp to_z-of_z at c.byte_status.ensures in
    let its = c.fots_duration_parse-read.ensures in
    record {
      duration = λ v has.
          let e = its.value v has in
          duration_same r r.duration (duration_ok v) b refl byte (omega (arith, ints), omega (arith, ints)) refl refl (ap (λ x. x.status) e) (ap (λ x. x.duration) e);
      form = λ no. duration_unreadable _ _ r r.duration b refl byte (its.syntax_error no);
      component = λ why h.
          let e = its.out_of_range why h in
          duration_same r r.duration (duration_error (duration_part_status why)) b refl byte (part_byte why) refl refl (ap (λ x. x.status) e) (ap (λ x. x.duration) e);
    }

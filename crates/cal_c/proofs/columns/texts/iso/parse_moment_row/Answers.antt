use Rattle.std.proofs.Common.{rules, FitsSigned, w32}
use Rattle.std.proofs.lemmas.Int.{to_z-of_z}
use Rattle.cal_c.proofs.TextRows.{is_byte, IsByteOf, moment_of_done, moment_of_refused, moment_of_unreadable}
use Rattle.cal_c.proofs.columns.texts.iso.parse_moment_row.Goals as goal

pub returns : goal.returns
returns c =
    let r = c.fots_moment_parse_iso-read.result in
    let b = c.byte_status.result in
    let status : FitsSigned w32 r.status = search rules in
    let byte : IsByteOf b r.status = simp to_z-of_z at c.byte_status.ensures in
    let its = c.fots_moment_parse_iso-read.ensures in
    let fits : FitsSigned w32 r.date = search rules in
    let fits_o : FitsSigned w32 r.offset = search rules in
    record {
      moment = λ m has. moment_of_done r b m fits fits_o byte (its.value m has);
      form = λ no. moment_of_unreadable _ _ r b fits fits_o byte (its.syntax_error no);
      component = λ why h. moment_of_refused r b _ fits fits_o byte (is_byte why.component) (its.out_of_range why h);
    }

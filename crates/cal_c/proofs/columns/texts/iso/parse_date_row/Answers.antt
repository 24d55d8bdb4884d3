use Rattle.std.proofs.Common.{rules, FitsSigned, w32}
use Rattle.std.proofs.lemmas.Int.{to_z-of_z}
use Rattle.cal_c.proofs.TextRows.{is_byte, IsByteOf, date_of_done, date_of_refused, date_of_unreadable}
use Rattle.cal_c.proofs.columns.texts.iso.parse_date_row.Goals as goal

pub returns : goal.returns
returns c =
    let r = c.fots_date_parse_iso-read.result in
    let b = c.byte_status.result in
    let status : FitsSigned w32 r.status = search rules in
    let byte : IsByteOf b r.status = simp to_z-of_z at c.byte_status.ensures in
    let its = c.fots_date_parse_iso-read.ensures in
    let fits : FitsSigned w32 r.date = search rules in
    record {
      date = λ n has. date_of_done r b n fits byte (its.value n has);
      form = λ no. date_of_unreadable _ _ r b fits byte (its.syntax_error no);
      component = λ why h. date_of_refused r b _ fits byte (is_byte why.component) (its.out_of_range why h);
    }

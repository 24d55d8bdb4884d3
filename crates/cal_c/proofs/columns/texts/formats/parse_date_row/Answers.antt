use Rattle.std.proofs.Common.{rules, arith, FitsSigned, w32}
use Rattle.std.proofs.lemmas.Int.{ints, to_z-of_z}
use Rattle.cal_c.specs.FormatParsing.{parse_status, parse_position}
use Rattle.cal_c.specs.declared.status.TheConstants.{INVALID_FORMAT, INSUFFICIENT_FORMAT}
use Rattle.cal_c.proofs.FormatParsing.{parse_byte}
use Rattle.cal_c.proofs.TextRows.{IsByteOf, date_of_done, date_of_refused, date_of_refused_at}
use Rattle.cal_c.proofs.columns.texts.formats.parse_date_row.Goals as goal

pub returns : goal.returns
returns c =
    let r = c.fots_date_parse_format-read.result in
    let b = c.byte_status.result in
    let status : FitsSigned w32 r.status = search rules in
    let byte : IsByteOf b r.status = simp to_z-of_z at c.byte_status.ensures in
    let its = c.fots_date_parse_format-read.ensures in
    let fits : FitsSigned w32 r.date = search rules in
    record {
      invalid_format = λ no. date_of_refused r b INVALID_FORMAT fits byte (omega (arith, ints), omega (arith, ints)) (its.invalid_format no);
      insufficient_format = λ items has no. date_of_refused r b INSUFFICIENT_FORMAT fits byte (omega (arith, ints), omega (arith, ints)) (its.insufficient_format items has no);
      value = λ items has determines.
          let read = its.value items has determines in
          record {
            value = λ n is. date_of_done r b n fits byte (read.value n is);
            error = λ none.
                let why = read.error none in
                (why.0, why.1, date_of_refused_at r b (parse_status why.0) (parse_position why.0) fits byte (parse_byte why.0) why.2);
          };
    }

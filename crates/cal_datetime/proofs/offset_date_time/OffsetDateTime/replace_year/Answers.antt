use Rattle.std.proofs.Common.{rules}
use Rattle.std.proofs.lemmas.Int.{to_z-of_z}
use Rattle.cal_datetime.proofs.offset_date_time.OffsetDateTime.replace_year.Goals as goal

pub returns-clause-error : goal.returns-clause-error
returns-clause-error c = let f = c.ranges.year in let e = c.in_ok-replace_year.ensures.error in record {
  error_kind = search rules;
  year = simp to_z-of_z at e.year;
  day = rw c.local.ensures.value at (simp to_z-of_z at e.day);
}

pub returns-in_err-replace_year-clause-error : goal.returns-in_err-replace_year-clause-error
returns-in_err-replace_year-clause-error c =
    let f = c.ranges.year in
    let e = c.in_err-replace_year.ensures.error in
    let year = simp to_z-of_z at e.year in
    let day = rw c.local.ensures.value at (simp to_z-of_z at e.day) in
    record { error_kind = search rules; year = search rules; day = search rules }

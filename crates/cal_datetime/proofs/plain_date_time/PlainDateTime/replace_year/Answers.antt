use Rattle.std.proofs.Common.{rules}
use Rattle.std.proofs.lemmas.Int.{to_z-of_z}
use Rattle.cal_datetime.proofs.plain_date_time.PlainDateTime.replace_year.Goals as goal

pub returns-clause-error : goal.returns-clause-error
returns-clause-error c = let f = c.ranges.year in let e = c.in_ok-replace_year.ensures.error in record {
  error_kind = search rules;
  year = simp to_z-of_z at e.year;
  day = rw c.date.ensures.value at (simp to_z-of_z at e.day);
}

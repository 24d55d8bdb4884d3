use Rattle.std.proofs.Common.{Ok, Err, ap, refl}
use Rattle.caldate_answers.proofs.answer.clock_moves.moved_on.Goals as goal

pub returns-in-Ok-moved_in : goal.returns-in-Ok-moved_in
returns-in-Ok-moved_in c = record {
  here = Ok c.in-Ok.here;
  there = Ok c.in-Ok-moved_in.there;
  seen = c.in-Ok.ensures;
  moved = c.in-Ok-moved_in.ensures;
  value = ap Ok c.to_offset_date_time.ensures;
}

pub returns-in-Err-moved_in : goal.returns-in-Err-moved_in
returns-in-Err-moved_in c = record {
  here = Ok c.in-Ok.here;
  there = Err c.in-Err-moved_in.error;
  seen = c.in-Ok.ensures;
  moved = c.in-Err-moved_in.ensures;
  value = refl;
}

pub returns-in-Err : goal.returns-in-Err
returns-in-Err c = record { here = Err c.in-Err.error; there = Err c.in-Err.error; seen = c.in-Err.ensures; moved = refl; value = refl }

use Rattle.std.proofs.Common.{◌≡◌, ap, subst, sym, ◌∙◌, Ok, Err}
use Rattle.std.specs.Prelude.{IsTrue}
use Rattle.cal_datetime.specs.DateTime.{date_time, date_at, time_at}
use Rattle.cal_datetime.specs.DateTimeLaws.{IsDateTime-date_time, date_at-date_time, time_at-date_time, date_time-parts}
use Rattle.cal_datetime.specs.OffsetDateTime.{LocalAndOffset}
use Rattle.cal_format.specs.Moment.{moment_of_offset_date_time}
use Rattle.cal_format.specs.Reading.{holds_time, DeterminesOffsetDateTime}
use Rattle.cal_format.specs.Rejection.{IsParsed}
use Rattle.cal_format.specs.Scanning.{AreHeld}
use Rattle.cal_format.specs.Text.{text_of}
use Rattle.cal_format.proofs.Outcomes.{result-or, no-result}
use Rattle.cal_format.proofs.Moments.{moment-holds}
use Rattle.cal_format.proofs.value_formats.OffsetDateTimeFormat.parse.Goals as goal

pub returns-in-Err : goal.returns-in-Err
returns-in-Err c =
    let determines = subst DeterminesOffsetDateTime c.self.view_is c.self.invariant in
    let parsed = subst (λ l. IsParsed l c.args.text.now (Err c.in-Err.error)) c.self.view_is c.in-Err.ensures in
    record {
      every = λ m local range held holds whole text.
          absurd (no-result c.in-Err.error (moment_of_offset_date_time m) (parsed.every (moment_of_offset_date_time m) (moment-holds c.args.self.now m determines local range held holds whole) text));
      value = tt;
      error = parsed.error;
      determines = determines;
    }

pub returns-in-Ok : goal.returns-in-Ok
returns-in-Ok c =
    let determines = subst DeterminesOffsetDateTime c.self.view_is c.self.invariant in
    let parsed = subst (λ l. IsParsed l c.args.text.now (Ok c.in-Ok.moment)) c.self.view_is c.in-Ok.ensures in
    let v = c.in-Ok.moment in
    let z = date_time v.date v.time in
    let below = parsed.value.in_range.time.below_day in
    let d : date_at z ≡ v.date = date_at-date_time v.date v.time below in
    let t : time_at z ≡ v.time = time_at-date_time v.date v.time below in
    let m : LocalAndOffset = record { local = z; offset = v.offset } in
    let same : v ≡ moment_of_offset_date_time m = λ i. record { date = sym d i; time = sym t i; offset = v.offset } in
    record {
      every = λ n local range held holds whole text.
          let own = ap (result-or c.in-Ok.moment) (parsed.every (moment_of_offset_date_time n) (moment-holds c.args.self.now n determines local range held holds whole) text) in
          ap Ok (c.new_in_offset.ensures.value ∙ (λ i. record { local = date_time (own i).date (own i).time; offset = (own i).offset }) ∙ (λ i. record { local = date_time-parts n.local local i; offset = n.offset }));
      value =
          rw c.new_in_offset.ensures.value (IsDateTime-date_time v.date v.time parsed.value.in_range.date below, parsed.value.in_range.offset, subst (λ w. AreHeld w c.args.self.now) same parsed.value.numbers, subst (λ n. IsTrue (holds_time c.args.self.now n)) (sym t) parsed.value.parts, parsed.value.offset_parts, parsed.value.text_is ∙ ap (text_of c.args.self.now) same);
      error = tt;
      determines = determines;
    }

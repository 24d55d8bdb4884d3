use Rattle.std.proofs.Common.{◌≡◌, ◌∙◌, arith, ap, rules, sym, get_or, pos, to_z, of_z, FitsSigned, w32}
use Rattle.std.proofs.lemmas.Grind.{common_steps}
use Rattle.std.proofs.lemmas.Int.{to_z-of_z}
use Rattle.cal_time.specs.Date.{julian_day_at}
use Rattle.cal_recurrence.specs.Cursors.{days_left}
use Rattle.cal_c.proofs.Recurring.{goes_on, kept_more, more_left, none_left, written_more}
use Rattle.cal_c.proofs.schedule.recurrences.days.write_left.Goals as goal

pub returns-in_default-clause-written : goal.returns-in_default-clause-written
returns-in_default-clause-written c =
    let kept = c.loop-index.invariant in
    let end = none_left (days_left c.args.rule.now c.args.cursor.now) c.loop-index.index (kept.left ∙ c.in_default.ensures.0) in
    record { count_is = omega (arith, end); days = kept.written; others = kept.others }

pub loop-index-preserved : goal.loop-index-preserved
loop-index-preserved c =
    let kept = c.loop-index.invariant in
    let days = days_left c.args.rule.now c.args.cursor.now in
    let rest = days_left c.args.rule.now c.next_day.new.self in
    let index = c.loop-index.index in
    let from = kept.left ∙ c.in-Some.ensures in
    let more = more_left days rest index c.in-Some.day from in
    let on = goes_on 0 days rest index c.in-Some.day more from in
    let fits : FitsSigned w32 c.to_julian_day.result = search rules in
    let here : to_z w32 (of_z w32 c.to_julian_day.result) ≡ julian_day_at (get_or days index 0) =
    simp to_z-of_z (c.to_julian_day.ensures.value ∙ ap julian_day_at (sym on.0)) in
    record {
      room = grind (arith, common_steps);
      few = omega (arith, more);
      left = on.1;
      written = written_more (pos 0) (λ k z. z ≡ julian_day_at (get_or days k 0)) c.loop-index.days index (to_z w32 (of_z w32 c.to_julian_day.result)) (omega arith) kept.written here;
      others = kept_more (pos 0) c.args.days.now c.loop-index.days index (to_z w32 (of_z w32 c.to_julian_day.result)) kept.others;
    }

use Rattle.std.proofs.Common.{◌≡◌, ◌∙◌, arith, ap, sym, get_or, pos}
use Rattle.std.proofs.lemmas.Grind.{common_steps}
use Rattle.cal_c.specs.TextSets.{no_moment, utc_moment}
use Rattle.cal_c.proofs.Recurring.{goes_on, kept_more, more_left, none_left, written_more}
use Rattle.cal_c.proofs.schedule.recurrences.readings.write_readings.Goals as goal

pub returns-in_default : goal.returns-in_default
returns-in_default c =
    let kept = c.loop-index.invariant in
    let end = none_left c.args.walk c.loop-index.index (kept.left ∙ c.in_default.ensures.steps.0) in
    record { count_is = omega (arith, end); readings = kept.written; others = kept.others }

pub loop-index-preserved : goal.loop-index-preserved
loop-index-preserved c =
    let kept = c.loop-index.invariant in
    let zs = c.args.walk in
    let index = c.loop-index.index in
    let from = kept.left ∙ c.in-Some.ensures.steps in
    let more = more_left zs c.next.new.self index c.in-Some.reading from in
    let on = goes_on (pos 0) zs c.next.new.self index c.in-Some.reading more from in
    let here : c.utc_moment.result ≡ utc_moment (get_or zs index (pos 0)) = c.utc_moment.ensures ∙ ap utc_moment (sym on.0) in
    record {
      room = grind (arith, common_steps);
      few = omega (arith, more);
      left = on.1;
      written = written_more no_moment (λ k m. m ≡ utc_moment (get_or zs k (pos 0))) c.loop-index.readings index c.utc_moment.result (omega arith) kept.written here;
      others = kept_more no_moment c.args.readings.now c.loop-index.readings index c.utc_moment.result kept.others;
    }

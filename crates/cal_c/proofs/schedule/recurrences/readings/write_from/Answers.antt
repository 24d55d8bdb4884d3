use Rattle.std.proofs.Common.{◌≡◌, refl, ◌+◌, ◌∙◌, ◌∷◌, arith, ap, sym, get_or, pos}
use Rattle.std.specs.Prelude.{unsigned_abs}
use Rattle.std.proofs.lemmas.Grind.{common_steps}
use Rattle.cal_recurrence.specs.DateTimeSet.{is_in_set, set_readings_after, set_readings_from, set_readings_left}
use Rattle.cal_recurrence.proofs.RuleOccurrences.{left-from}
use Rattle.cal_c.specs.TextSets.{no_moment, utc_moment}
use Rattle.cal_c.proofs.Recurring.{goes_on, kept_more, more_left, none_left, written_more}
use Rattle.cal_c.proofs.schedule.recurrences.readings.write_from.Goals as goal

pub returns-in_default-clause-written : goal.returns-in_default-clause-written
returns-in_default-clause-written c =
    let kept = c.loop-index.invariant in
    let set = c.args.set.now in
    let end = none_left (set_readings_from set c.args.from) c.loop-index.index (kept.left ∙ ap (set_readings_left set) c.in_default.is) in
    record { count_is = omega (arith, end); readings = kept.written; others = kept.others }

pub loop-index-preserved : goal.loop-index-preserved
loop-index-preserved c =
    let kept = c.loop-index.invariant in
    let set = c.args.set.now in
    let zs = set_readings_from set c.args.from in
    let index = c.loop-index.index in
    let reading = c.in-Some.reading in
    let next = c.next_after-next.result in
    let rest = set_readings_left set next in
    let same = c.next_after-next.ensures.same ∙ kept.same in
    let follows = left-from (is_in_set c.loop-index.set) (unsigned_abs reading + 1) next c.next_after-next.ensures.value in
    let on-set = sym follows ∙ ap (λ s. set_readings_left s next) kept.same in
    let turn = ap (λ s. set_readings_after s reading) (sym kept.same) in
    let from = kept.left ∙ ap (set_readings_left set) c.in-Some.is ∙ ap (λ l. reading ∷ l) (turn ∙ on-set) in
    let more = more_left zs rest index reading from in
    let on = goes_on (pos 0) zs rest index reading more from in
    let here : c.utc_moment.result ≡ utc_moment (get_or zs index (pos 0)) = c.utc_moment.ensures ∙ ap utc_moment (sym on.0) in
    record {
      same = same;
      room = grind (arith, common_steps);
      few = omega (arith, more);
      left = on.1;
      written = written_more no_moment (λ k m. m ≡ utc_moment (get_or zs k (pos 0))) c.loop-index.readings index c.utc_moment.result (omega arith) kept.written here;
      others = kept_more no_moment c.args.readings.now c.loop-index.readings index c.utc_moment.result kept.others;
    }

pub loop-index-init : goal.loop-index-init
loop-index-init c =
    let set = c.args.set.now in
    let first = c.first_from-next in
    record {
      same = first.ensures.same;
      room = refl;
      few = omega arith;
      left = sym (left-from (is_in_set set) (unsigned_abs c.args.from) first.result first.ensures.value);
      written = λ k less. absurd (omega (arith, less));
      others = λ k past. refl;
    }

use Rattle.std.proofs.Common.{true, refl, arith, sym, ◌∙◌}
use Rattle.std.specs.Ordering.{int_cmp}
use Rattle.std.proofs.lemmas.Int.{ints}
use Rattle.cal_recurrence.specs.DateTimeSet.{is_listed}
use Rattle.cal_recurrence.specs.Nearest.{is_past, IsFirstPast}
use Rattle.cal_recurrence.proofs.DateTimeSets.{after_rule, first_after, next_candidates, next_readings, none_after, rule_readings, same_reading}
use Rattle.cal_recurrence.proofs.NearestValues.{ended, is-later, kept, readings_after, skipped}
use Rattle.cal_recurrence.proofs.date_time_set.DateTimeSet.next_after.Goals as goal

pub returns-then-not-contains : goal.returns-then-not-contains
returns-then-not-contains c =
    let set = c.args.self.now in
    let at = c.loop-next in
    let z = c.args.reading in
    let x = c.in-Some.next in
    let date = c.date-in-Some.ensures.in_range in
    let first : IsFirstPast (is_past int_cmp true) (next_readings set) z x =
    kept (is_past int_cmp true) (next_readings set) (next_candidates set) (is_listed set.exceptions.now) z at.last x (λ k. refl) at.invariant.searched
    (c.in-Some.ensures (rule_readings set) (after_rule set at.last _ at.invariant.range c.next_after.ensures)) (sym c.contains.ensures.value ∙ c.if-not-contains.true) in
    record {
      value = first_after set z x c.date.ensures.in_range date first;
      found = (is-later z x first.beyond, same_reading set x date ∙ first.passes);
    }

pub loop-next-preserved : goal.loop-next-preserved
loop-next-preserved c =
    let set = c.args.self.now in
    let at = c.loop-next in
    record {
      range = c.date-in-Some.ensures.in_range;
      searched = skipped (is_past int_cmp true) (next_readings set) (next_candidates set) (is_listed set.exceptions.now) c.args.reading at.last c.in-Some.next readings_after (λ k. refl)
          at.invariant.searched
          (c.in-Some.ensures (rule_readings set) (after_rule set at.last _ at.invariant.range c.next_after.ensures)) (sym c.contains.ensures.value ∙ c.if-not-contains.false);
    }

pub loop-next-smaller : goal.loop-next-smaller
loop-next-smaller c =
    let set = c.args.self.now in
    let at = c.loop-next in
    let date = c.date-in-Some.ensures.in_range in
    let next = (c.in-Some.ensures (rule_readings set) (after_rule set at.last _ at.invariant.range c.next_after.ensures)) in
    omega (arith, ints, is-later at.last c.in-Some.next next.beyond, date.not_before, date.not_after, at.invariant.range.not_before)

pub returns-clause-value : goal.returns-clause-value
returns-clause-value c =
    let set = c.args.self.now in
    let at = c.loop-next in
    none_after set c.args.reading c.date.ensures.in_range
    (ended (is_past int_cmp true) (next_readings set) (next_candidates set) (is_listed set.exceptions.now) c.args.reading at.last (λ k. refl) at.invariant.searched
    (c.in_default.ensures (rule_readings set) (after_rule set at.last _ at.invariant.range c.next_after.ensures)))

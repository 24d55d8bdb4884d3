use Rattle.std.proofs.Common.{true, ◌+◌, refl, arith, sym, ◌∙◌, Some}
use Rattle.std.specs.Ordering.{nat_cmp}
use Rattle.cal_time.specs.Date.{last_day}
use Rattle.cal_recurrence.specs.Nearest.{is_past}
use Rattle.cal_recurrence.specs.Sets.{is_in_set, is_listed}
use Rattle.cal_recurrence.specs.TimeSearch.{IsFirst}
use Rattle.cal_recurrence.proofs.NearestValues.{days_after, ended, is-after, kept, skipped}
use Rattle.cal_recurrence.proofs.Sets.{after_rule, first_after, is_next_day, next_candidates, next_days, none_after, rule_days, stays-ended}
use Rattle.cal_recurrence.proofs.set.RecurrenceSet.next_day.Goals as goal

pub returns-then-not-contains : goal.returns-then-not-contains
returns-then-not-contains c =
    let set = c.args.self.now in
    let at = c.loop-next in
    let n = c.args.date in
    let x = c.in-Some.next in
    let next = c.in-Some.ensures (rule_days set) (after_rule set at.last _ c.rule_after.ensures.value) in
    let first : IsFirst (is_in_set set) (n + 1) (last_day + 1) x = first_after set n x c.day_number.ensures.in_range
    (kept (is_past nat_cmp true) (next_days set) (next_candidates set) (is_listed set.exceptions.now) n at.last x (λ k. refl) at.invariant.searched
    next (sym c.contains.ensures.value ∙ c.if-not-contains.true)) in
    record { value = is_next_day (is_in_set set) n (Some x) first; found = (omega (arith, first.not_before), first.passes); ended = λ over. stays-ended set.rule at.last x (omega (arith, is-after at.last x next.beyond)) (c.rule_after.ensures.ended over) }

pub loop-next-preserved : goal.loop-next-preserved
loop-next-preserved c =
    let set = c.args.self.now in
    let at = c.loop-next in
    let x = c.in-Some.next in
    let next = c.in-Some.ensures (rule_days set) (after_rule set at.last _ c.rule_after.ensures.value) in
    record {
      searched = skipped (is_past nat_cmp true) (next_days set) (next_candidates set) (is_listed set.exceptions.now) c.args.date at.last x days_after (λ k. refl) at.invariant.searched
          next (sym c.contains.ensures.value ∙ c.if-not-contains.false);
      ended = λ over. stays-ended set.rule at.last x (omega (arith, is-after at.last x next.beyond)) (c.rule_after.ensures.ended over);
    }

pub loop-next-smaller : goal.loop-next-smaller
loop-next-smaller c =
    let set = c.args.self.now in
    let next = c.in-Some.ensures (rule_days set) (after_rule set c.loop-next.last _ c.rule_after.ensures.value) in
    omega (arith, is-after c.loop-next.last c.in-Some.next next.beyond, c.day_number.ensures.in_range)

pub returns-clause-value : goal.returns-clause-value
returns-clause-value c =
    let set = c.args.self.now in
    let at = c.loop-next in
    none_after set c.args.date
    (ended (is_past nat_cmp true) (next_days set) (next_candidates set) (is_listed set.exceptions.now) c.args.date at.last (λ k. refl) at.invariant.searched
    (c.in_default.ensures (rule_days set) (after_rule set at.last _ c.rule_after.ensures.value)))

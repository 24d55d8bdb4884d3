use Rattle.std.proofs.Common.{false, sym, ◌∙◌, None, Some}
use Rattle.std.specs.Ordering.{nat_cmp}
use Rattle.cal_schedule.specs.Rule.{is_occurrence}
use Rattle.cal_recurrence.specs.Nearest.{is_past, IsFirstPast}
use Rattle.cal_recurrence.specs.Sets.{is_in_set, is_listed}
use Rattle.cal_recurrence.proofs.NearestValues.{days_before, ended, is-before, kept, skipped}
use Rattle.cal_recurrence.proofs.Sets.{before_rule, candidates, is_nearest_before, leaves}
use Rattle.cal_recurrence.proofs.set.RecurrenceSet.previous_before.Goals as goal

pub returns-then-not-contains : goal.returns-then-not-contains
returns-then-not-contains c =
    let set = c.args.self.now in
    let at = c.loop-previous in
    let n = c.args.date in
    let x = c.in-Some.previous in
    let last : IsFirstPast (is_past nat_cmp false) (is_in_set set) n x =
    kept (is_past nat_cmp false) (is_in_set set) (candidates set) (is_listed set.exceptions.now) n at.first x (leaves set) at.invariant
    (c.in-Some.ensures (is_occurrence set.rule) (before_rule set at.first _ c.previous_before.ensures.value)) (sym c.contains.ensures.value ∙ c.if-not-contains.true) in
    record { value = is_nearest_before (is_in_set set) n (Some x) last; found = (is-before n x last.beyond, last.passes) }

pub loop-previous-preserved : goal.loop-previous-preserved
loop-previous-preserved c =
    let set = c.args.self.now in
    let at = c.loop-previous in
    skipped (is_past nat_cmp false) (is_in_set set) (candidates set) (is_listed set.exceptions.now) c.args.date at.first c.in-Some.previous days_before (leaves set) at.invariant
    (c.in-Some.ensures (is_occurrence set.rule) (before_rule set at.first _ c.previous_before.ensures.value)) (sym c.contains.ensures.value ∙ c.if-not-contains.false)

pub loop-previous-smaller : goal.loop-previous-smaller
loop-previous-smaller c =
    let set = c.args.self.now in
    let at = c.loop-previous in
    let previous = (c.in-Some.ensures (is_occurrence set.rule) (before_rule set at.first _ c.previous_before.ensures.value)) in
    is-before at.first c.in-Some.previous previous.beyond

pub returns-clause-value : goal.returns-clause-value
returns-clause-value c =
    let set = c.args.self.now in
    let at = c.loop-previous in
    is_nearest_before (is_in_set set) c.args.date None
    (ended (is_past nat_cmp false) (is_in_set set) (candidates set) (is_listed set.exceptions.now) c.args.date at.first (leaves set) at.invariant
    (c.in_default.ensures (is_occurrence set.rule) (before_rule set at.first _ c.previous_before.ensures.value)))

use Rattle.std.proofs.Common.{◌≡◌, ◌≤◌, ◌∙◌, ◌≤ℤ◌, sym, ap, arith, take, true, slice_get, Some, None}
use Rattle.std.specs.Prelude.{is_some}
use Rattle.std.specs.List.{last_or}
use Rattle.cal_recurrence.specs.CountedSet.{past_end, whole_rule}
use Rattle.cal_recurrence.specs.DateTimeRule.{is_not_after, occurrences_after}
use Rattle.cal_recurrence.proofs.DayBounds.{last_of_some, not_before}
use Rattle.cal_recurrence.proofs.counting.Uncounted.pass_over.Goals as goal

pub returns-clause-whole : goal.returns-clause-whole
returns-clause-whole c =
    let rule = c.args.rule.now in
    let endless = record rule { until = None } in
    let left = c.args.self.now.left in
    let place = c.in-Some-place_before_next.place in
    let last = c.in-Some.last in
    let most = c.max_readings.result in
    let ends : rule.until ≡ Some last = sym c.in-Some.ensures in
    let enough : most ≤ left = omega (arith, c.if-from-max_readings.false) in
    let order : last ≤ℤ place = not_before last place (ap (λ u. is_not_after u place) (sym ends) ∙ sym c.is_not_after-2.ensures ∙ c.if-is_not_after-2.false) in
    let some : is_some (slice_get (occurrences_after endless place) 0) ≡ true =
    ap (λ r. is_some (slice_get (occurrences_after r place) 0)) (sym c.endless-endless.ensures) ∙ c.in-Some-place_before_next.ensures in
    let last_is = last_of_some endless most left (Some last) (Some place) last place c.max_readings.ensures enough
    c.date-else-is_not_after.ensures.in_range c.date-2.ensures.in_range order some in
    let before = ap (last_or rule.until) c.requires ∙ ap (λ u. last_or u (take left (past_end rule u))) ends in
    let after = c.first_after-self.ensures ∙ ap (λ r. take left (occurrences_after r place)) c.endless-endless.ensures in
    ap (λ s. whole_rule s c.first_after-self.result) c.end_at.ensures
    ∙ ap (λ u. record rule { until = u }) (ap (last_or (Some place)) after ∙ last_is ∙ sym before)

use Rattle.std.proofs.Common.{◌≡◌, ◌+◌, ◌-◌, ◌*◌, ◌<◌, ◌∙◌, sym, ap, arith, length, pos, subst}
use Rattle.std.specs.Prelude.{◌==◌}
use Rattle.cal_time.specs.IsoWeekDate.{count_before}
use Rattle.cal_time.specs.SignedDuration.{day}
use Rattle.cal_datetime.specs.DateTime.{time_at}
use Rattle.cal_schedule.specs.Rule.{passes_with}
use Rattle.cal_schedule.specs.Weekdays.{count_from}
use Rattle.cal_recurrence.specs.DateTimeRule.{matches_positions}
use Rattle.cal_recurrence.specs.TimeSearch.{IsFirst, IsNext, NoneIn, selects_time}
use Rattle.cal_recurrence.proofs.SelectedReadings.{ahead-of, back-of, index-less, product-is, some-ahead, some-back, tested, time-passed, time-selected, times-are, without-positions}
use Rattle.cal_recurrence.proofs.TimeCounts.{count-past}
use Rattle.cal_recurrence.proofs.TimePositions.{days-are, per_day, ranked, times}
use Rattle.cal_recurrence.proofs.date_time_rule.DateTimeRule.next_on_day.Goals as goal
use Rattle.cal_recurrence.proofs.date_time_rule.DateTimeRule.next_on_day.Goals.{After-allows_position, In-Some}

pub returns-then-is_empty : goal.returns-then-is_empty
returns-then-is_empty c =
    let rule = c.args.self.now in
    let tests = times-are rule _ _ (ap (λ r. r.times) c.self.view_is) (c.time-own.ensures.value ∙ ap (λ r. time_at r.start) c.self.view_is) in
    subst (λ test. IsNext test c.args.first day c.next_time.result) (tests ∙ without-positions rule c.args.date (sym c.if-is_empty.true ∙ c.is_empty.ensures ∙ ap (λ r. length r.pattern.set_positions == 0) c.self.view_is)) c.next_time.ensures

pub overflow_sub-ahead : goal.overflow_sub-ahead
overflow_sub-ahead c =
    let rule = c.args.self.now in
    let days = days-are _ _ _ _ _ _ _ c.self.inside.step c.self.invariant ∙ ap ranked c.self.view_is in
    some-ahead rule c.args.date _ c.requires.on (c.ranks-ahead.ensures.ahead ∙ ap (λ d. count_before (passes_with d c.args.date) (c.args.date + 1)) days ∙ ahead-of rule c.args.date)

pub overflow_sub-back : goal.overflow_sub-back
overflow_sub-back c =
    let rule = c.args.self.now in
    let days = days-are _ _ _ _ _ _ _ c.self.inside.step c.self.invariant ∙ ap ranked c.self.view_is in
    some-back rule c.args.date _ c.ranks-ahead.ensures.in_range c.requires.on (c.ranks-ahead.ensures.back ∙ ap (λ d. count_from (passes_with d c.args.date) c.args.date) days ∙ back-of rule c.args.date)

-- the next time of day that passes
time-is : (c : In-Some) → IsFirst (times c.args.self.now) c.loop-time.from day c.in-Some.time
time-is c =
    let tests = times-are c.args.self.now _ _ (ap (λ r. r.times) c.self.view_is) (c.time-own.ensures.value ∙ ap (λ r. time_at r.start) c.self.view_is) in
    subst (λ test. IsFirst test c.loop-time.from day c.in-Some.time) tests c.in-Some.ensures

less : (c : In-Some) → c.loop-time.index < c.self.inside.per_day
less c =
    omega (arith, c.self.invariant.count_is, ap (λ r. per_day r) c.self.view_is, index-less c.args.self.now c.loop-time.from c.loop-time.index c.in-Some.time c.loop-time.invariant.index_is (time-is c))

has-position : (c : After-allows_position) → IsFirst (times c.args.self.now) c.loop-time.from day c.in-Some.time
    → matches_positions c.args.self.now (pos (c.args.date * day + c.in-Some.time)) ≡ c.allows_position.result
has-position c time =
    let rule = c.args.self.now in
    let at = c.loop-time in
    let size : c.self.inside.per_day ≡ per_day rule = c.self.invariant.count_is ∙ ap (λ r. per_day r) c.self.view_is in
    let n = c.args.date in
    let days = days-are _ _ _ _ _ _ _ c.self.inside.step c.self.invariant ∙ ap ranked c.self.view_is in
    let ranks = c.ranks-ahead in
    tested rule n at.from at.index c.in-Some.time ranks.result.0 ranks.result.1 _ _ c.self.inside.positions c.allows_position.result
    ranks.ensures.in_range c.requires.on
    (ranks.ensures.ahead ∙ ap (λ d. count_before (passes_with d n) (n + 1)) days ∙ ahead-of rule n)
    (ranks.ensures.back ∙ ap (λ d. count_from (passes_with d n) n) days ∙ back-of rule n)
    at.invariant.index_is time
    (omega (arith, product-is c.from.result c.from-2.result (ranks.result.0 - 1) (per_day rule) c.from.ensures (c.from-2.ensures ∙ size), c.from-in-Some.ensures))
    (omega (arith, product-is c.from-3.result c.from-4.result (ranks.result.1 - 1) (per_day rule) c.from-3.ensures (c.from-4.ensures ∙ size), c.from-in-Some-2.ensures, size))
    (ap (λ r. r.pattern.set_positions) c.self.view_is) c.allows_position.ensures

pub overflow_sub-self-inside : goal.overflow_sub-self-inside
overflow_sub-self-inside c = let below = less (goal.at.overflow_sub-self-inside c).In-Some in omega (arith, below)

pub returns-then-allows_position : goal.returns-then-allows_position
returns-then-allows_position c =
    let at = goal.at.returns-then-allows_position c in
    let time = time-is at.In-Some in
    time-selected c.args.self.now c.args.date c.args.first c.loop-time.from c.in-Some.time c.loop-time.invariant.from c.loop-time.invariant.none time (has-position at.After-allows_position time ∙ c.if-allows_position.true)

pub overflow_add-index : goal.overflow_add-index
overflow_add-index c = let below = less (goal.at.overflow_add-index c).In-Some in omega (arith, below)

pub loop-time-preserved : goal.loop-time-preserved
loop-time-preserved c =
    let rule = c.args.self.now in
    let n = c.args.date in
    let from = c.loop-time in
    let at = goal.at.loop-time-preserved c in
    let time = time-is at.In-Some in
    record {
      from = omega (arith, from.invariant.from, time.not_before, c.nanoseconds-from.ensures.value);
      most = omega (arith, c.nanoseconds-from.ensures.max);
      index_is = count-past (times rule) from.from from.index day c.in-Some.time _ from.invariant.index_is time (omega (arith, c.nanoseconds-from.ensures.value));
      none = subst (λ t. NoneIn (selects_time rule n) c.args.first (t + 1)) (sym c.nanoseconds-from.ensures.value)
          (time-passed rule n c.args.first from.from c.in-Some.time from.invariant.none time (has-position at.After-allows_position time ∙ c.if-allows_position.false));
    }

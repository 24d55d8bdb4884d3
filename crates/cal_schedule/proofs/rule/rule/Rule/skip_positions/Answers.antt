use Rattle.std.proofs.Common.{◌≡◌, ◌+◌, ◌/◌, max, refl, true, ◌∙◌, sym, ap, arith}
use Rattle.cal_time.specs.IsoWeekDate.{count_before}
use Rattle.cal_schedule.specs.Ranks.{count-most, count-next, count-rises}
use Rattle.cal_schedule.specs.Rule.{passes}
use Rattle.cal_schedule.proofs.PositionSkips.{over_weeks, to_end}
use Rattle.cal_schedule.proofs.rule.rule.Rule.skip_positions.Goals as goal

pub count_without_position-days-requires-clause-some : goal.count_without_position-days-requires-clause-some
count_without_position-days-requires-clause-some c =
    let rule = c.args.self.now in
    omega (
      arith,
      c.requires.back,
      count-next (passes rule) c.args.day true 1 (sym c.requires.passes) refl,
      count-rises (passes rule) (c.args.day + 1) c.args.end (omega (arith, c.requires.end.last)),
    )

pub count_without_position-days-requires-clause-max : goal.count_without_position-days-requires-clause-max
count_without_position-days-requires-clause-max c =
    let rule = c.args.self.now in
    let end = c.requires.end in
    (omega (arith, c.requires.ahead, count-most (passes rule) (c.args.day + 1), end.last, end.range), omega (arith, c.requires.back, count-most (passes rule) c.args.end, end.range))

pub returns-then-days-back : goal.returns-then-days-back
returns-then-days-back c =
    let its = c.requires in
    let days = c.count_without_position-days in (
      omega (arith, its.end.last, c.from.ensures),
      omega (arith, its.end.range, c.from.ensures),
      λ k low high.
          to_end c.args.self.now c.args.day c.args.start c.args.end c.args.ahead c.args.back days.result its.start its.end its.passes its.ahead its.back its.off days.ensures.none
          c.if-days-back.true k low (omega (arith, high, c.from.ensures)),
    )

pub returns : goal.returns
returns c =
    let rule = c.args.self.now in
    let its = c.requires in
    let days = c.count_without_position-days in
    let week = c.count_passing.result in
    let first = c.day_number-first.ensures.value in
    let weeks : c.from-3.result ≡ days.result / max week 1 = c.from-3.ensures ∙ ap (λ k. days.result / k) c.max.ensures in
    let all = over_weeks rule c.args.day c.args.start c.args.end c.args.ahead c.args.back days.result week c.from-3.result its.start its.end its.passes its.ahead its.back its.off
    days.ensures.none days.ensures.max (c.has_only_weekdays.ensures c.if-not-has_only_weekdays.false)
    (c.count_passing.ensures.value ∙ ap (λ n. count_before (passes rule) (n + 7)) first) weeks in (
      omega (arith, c.from-2.ensures, first, c.from-3.ensures, c.if-weeks-eq0.false),
      omega (arith, c.from-2.ensures, first, all.0, its.end.range),
      λ k low high. all.1 k low (omega (arith, high, c.from-2.ensures, first)),
    )

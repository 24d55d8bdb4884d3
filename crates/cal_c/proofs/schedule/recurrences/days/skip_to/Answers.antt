use Rattle.std.proofs.Common.{◌≡◌, ◌∙◌, arith, sym, ◌+◌, ◌≤◌}
use Rattle.cal_c.proofs.PassedDays.{first_past, kept, later_than, moved, none_past, not_later_than}
use Rattle.cal_c.proofs.schedule.recurrences.days.skip_to.Goals as goal
use Rattle.cal_c.proofs.schedule.recurrences.days.skip_to.Goals.{in-Some-last, in-None}

pub returns-in_default : goal.returns-in_default
returns-in_default c =
    let cursor = c.args.cursor.now in
    let first : c.args.from ≤ 0 = omega (arith, c.in_default.ensures.value) in
    kept c.args.rule.now cursor.left cursor.last c.args.from (omega (arith, c.if-cursor-lt-ALL_DAYS.false)) (omega (arith, first))

pub returns-then-is_past : goal.returns-then-is_past
returns-then-is_past c =
    let cursor = c.args.cursor.now in
    let before = c.in-Some.before in
    let next : c.args.from ≡ before + 1 = omega (arith, c.in-Some.ensures.value.0, c.in-Some.ensures.value.1) in
    let past : first_past cursor.last ≤ c.args.from = elim c.match-cursor.branch [
      | in-Some-last w ↦ later_than cursor.last c.args.from before w.in-Some-last.last w.lt-is_past.result w.in-Some-last.is next w.lt-is_past.ensures (sym w.is_past-is ∙ c.if-is_past.true)
      | in-None w ↦ none_past cursor.last c.args.from w.in-None.is
    ] in
    moved c.args.rule.now cursor.left cursor.last c.args.from before (omega (arith, c.if-cursor-lt-ALL_DAYS.false)) next (omega (arith, next, c.in-Some.ensures.in_range)) past

pub returns-else-is_past : goal.returns-else-is_past
returns-else-is_past c =
    let cursor = c.args.cursor.now in
    let before = c.in-Some.before in
    let next : c.args.from ≡ before + 1 = omega (arith, c.in-Some.ensures.value.0, c.in-Some.ensures.value.1) in
    let no_earlier : c.args.from ≤ first_past cursor.last = elim c.match-cursor.branch [
      | in-Some-last w ↦ not_later_than cursor.last c.args.from before w.in-Some-last.last w.lt-is_past.result w.in-Some-last.is next w.lt-is_past.ensures (sym w.is_past-is ∙ c.if-is_past.false)
      | in-None w ↦ let e = w.is_past-is in let no = c.if-is_past.false in absurd (cc)
    ] in
    kept c.args.rule.now cursor.left cursor.last c.args.from (omega (arith, c.if-cursor-lt-ALL_DAYS.false)) no_earlier

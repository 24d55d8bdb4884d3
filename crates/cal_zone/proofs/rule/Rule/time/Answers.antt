use Rattle.std.proofs.Common.{arith, subst, sym, w64, ◌∙◌}
use Rattle.std.proofs.lemmas.Int.{ints, to_z-of_z}
use Rattle.cal_zone.specs.Timeline.{IsMoment}
use Rattle.cal_zone.proofs.Rules.{time_even, time_odd, change_in}
use Rattle.cal_zone.proofs.rule.Rule.time.Goals as goal

pub returns-then-index-eq0 : goal.returns-then-index-eq0
returns-then-index-eq0 c =
    let calm = c.args.self.now.calm in
    let other = calm.second.offset in
    let e = time_even c.args.self.now.one c.args.self.now.other c.args.index _ _ _ (to_z-of_z w64 c.moment.result (omega (arith, ints)) ∙ c.moment.ensures.value)
    c.if-index-eq0.true (omega (arith, ints, other.0, other.1)) (omega (arith, ints)) in
    record { value = e; moment = subst IsMoment (sym e) (change_in c.args.self.now.one c.args.self.now.other c.args.index calm c.requires).0 }

pub returns-else-index-eq0 : goal.returns-else-index-eq0
returns-else-index-eq0 c =
    let calm = c.args.self.now.calm in
    let one = calm.first.offset in
    let e = time_odd c.args.self.now.one c.args.self.now.other c.args.index _ _ _
    (to_z-of_z w64 c.moment-else-index-eq0.result (omega (arith, ints)) ∙ c.moment-else-index-eq0.ensures.value)
    (omega (arith, c.if-index-eq0.false)) (omega (arith, ints, one.0, one.1)) (omega (arith, ints)) in
    record { value = e; moment = subst IsMoment (sym e) (change_in c.args.self.now.one c.args.self.now.other c.args.index calm c.requires).0 }

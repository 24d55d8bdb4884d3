use Rattle.std.proofs.Common.{ap, ◌∙◌, arith, ℕ, length, ◌-◌}
use Rattle.cal_zone.specs.Timeline.{at}
use Rattle.cal_zone.proofs.Joins.{moment_is}
use Rattle.cal_zone.proofs.Rules.{rest_after, rest_none}
use Rattle.cal_zone.proofs.rule.Rule.skip.Goals as goal

pub returns-then-count-eq0-clause-rest : goal.returns-then-count-eq0-clause-rest
returns-then-count-eq0-clause-rest c = rest_none c.args.self.now.one c.args.self.now.other c.args.table.now (omega (arith, c.len-count.ensures.len))

pub returns-else-count-eq0-clause-rest : goal.returns-else-count-eq0-clause-rest
returns-else-count-eq0-clause-rest c =
    let last = c.change.ensures.at ∙ ap (λ (n : ℕ). at c.args.table.now (n - 1)) c.len-count.ensures.len in
    rest_after c.args.self.now.one c.args.self.now.other c.args.table.now c.count.result _ c.count.ensures.split (omega (arith, c.len-count.ensures.len))
    (moment_is _ _ last (c.requires (length c.args.table.now - 1) (omega (arith, c.len-count.ensures.len))))

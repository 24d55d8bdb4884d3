use Rattle.std.proofs.Common.{sym, ◌∙◌, subst, rules, List, ◌++◌, Option}
use Rattle.std.proofs.lemmas.Bool.{false≢true}
use Rattle.cal_zone.specs.declared.change.Change.{Change}
use Rattle.cal_zone.specs.declared.rule.Rule.{Rule}
use Rattle.cal_zone.specs.declared.timeline_error.TimelineError.TheVariants as refused
use Rattle.cal_zone.specs.Timeline.{IsOrdered}
use Rattle.cal_zone.specs.Zone.{IsTimelineError, Joins, zone_of}
use Rattle.cal_zone.proofs.Errors.{timeline_error}
use Rattle.cal_zone.proofs.Rules.{whole}
use Rattle.cal_zone.proofs.zone.join.Goals as goal

pub returns-then-joins-clause-ordered : goal.returns-then-joins-clause-ordered
returns-then-joins-clause-ordered c =
    let r = c.in-Some-rule.found in
    let order : IsOrdered c.args.first.offset c.args.table.now = search rules in
    let all = whole r.one r.other c.args.first.offset c.args.table.now c.skip-skip.result r.calm order (c.joins.ensures.0 c.if-joins.true) in
    subst (λ (rule : Option Rule). IsOrdered c.args.first.offset (zone_of c.args.first c.args.table.now rule).changes) (sym c.in-Some-rule.is)
    (subst (λ (ys : List Change). IsOrdered c.args.first.offset (c.args.table.now ++ ys)) (sym c.skip-skip.ensures.rest) all)

pub returns-else-joins-clause-error : goal.returns-else-joins-clause-error
returns-else-joins-clause-error c =
    let order : IsOrdered c.args.first.offset c.args.table.now = search rules in
    subst (λ (rule : Option Rule). IsTimelineError c.args.first c.args.table.now rule refused.Junction) (sym c.in-Some-rule.is)
    (order, λ joins. false≢true (sym c.if-joins.false ∙ c.joins.ensures.1 (subst (λ (ys : List Change). Joins c.args.first.offset c.args.table.now ys) c.skip-skip.ensures.rest joins)))

pub returns-in-Some-clause-every : goal.returns-in-Some-clause-every
returns-in-Some-clause-every c = timeline_error c.args.first c.args.table.now c.args.rule (refused.Change c.in-Some.error) (search rules)

pub returns-else-joins-clause-every : goal.returns-else-joins-clause-every
returns-else-joins-clause-every c = timeline_error c.args.first c.args.table.now c.args.rule refused.Junction (returns-else-joins-clause-error c)

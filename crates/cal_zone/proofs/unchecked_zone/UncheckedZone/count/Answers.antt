use Rattle.std.proofs.Common.{ℕ, ◌+◌, ◌++◌, length, ap, sym, subst, arith, Option, Some, to_z, of_z, w64}
use Rattle.std.proofs.lemmas.Int.{to_z-of_z}
use Rattle.cal_zone.specs.declared.rule.Rule.{Rule}
use Rattle.cal_zone.specs.Split.{IsBracket}
use Rattle.cal_zone.specs.Timeline.{Timeline, at}
use Rattle.cal_zone.specs.Zone.{later}
use Rattle.cal_zone.proofs.Counts.{in_rule, of_changes}
use Rattle.cal_zone.proofs.unchecked_zone.UncheckedZone.count.Goals as goal

pub returns-in-Some : goal.returns-in-Some
returns-in-Some c =
    let n = c.count-count.result in
    let m = c.saturating_sub.result in
    let x = to_z w64 (of_z w64 c.args.instant) in
    let t = c.self.inside.table in
    let s = c.self.inside.skip in
    let r = c.in-Some.rule in
    let found = in_rule r.one r.other t s c.count.result x n c.count-count.ensures (omega (arith, c.len.ensures.len)) c.count.ensures.split in
    let counted = subst (λ (k : ℕ). IsBracket (at (t ++ later (Some r) s)) (length (t ++ later (Some r) s)) x (n + k) (n + k)) (sym c.saturating_sub.ensures) found in
    let held = subst (λ (o : Option Rule). IsBracket (at (t ++ later o s)) (length (t ++ later o s)) x (n + m) (n + m)) (sym c.in-Some.is) counted in
    of_changes _ _ _ _ (n + m) (ap (λ (z : Timeline). z.changes) c.self.view_is) (to_z-of_z w64 c.args.instant c.ranges.instant) held

use Rattle.std.proofs.Common.{◌≡◌, rules, sym, subst, ◌↔◌, w64}
use Rattle.std.proofs.lemmas.Int.{to_z-of_z}
use Rattle.std.specs.Prelude.{ℤ}
use Rattle.cal_zone.specs.Timeline.{local_at}
use Rattle.cal_zone.proofs.unchecked_zone.UncheckedZone.instants_of.Goals as goal

pub returns-in-Some-clause-set : goal.returns-in-Some-clause-set
returns-in-Some-clause-set c = λ order i.
    subst (λ (x : ℤ). (i ≡ x) ↔ (local_at c.args.self.now i ≡ c.args.reading)) (sym (to_z-of_z w64 c.in-Some.instant (search rules)))
    (subst (λ (r : ℤ). (i ≡ c.in-Some.instant) ↔ (local_at c.args.self.now i ≡ r)) (to_z-of_z w64 c.args.reading c.ranges.reading)
    (c.in-Some.ensures.only c.args.self.now order (c.span_at.ensures.span order) i))

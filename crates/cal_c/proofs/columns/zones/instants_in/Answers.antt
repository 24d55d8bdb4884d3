use Rattle.std.proofs.Common.{◌≡◌, ◌↔◌, rules, sym, subst, w64}
use Rattle.std.proofs.lemmas.Int.{to_z-of_z}
use Rattle.std.specs.Prelude.{ℤ}
use Rattle.cal_zone.specs.Instants.{IsExplained, Names}
use Rattle.cal_zone.specs.Timeline.{local_at}
use Rattle.cal_c.proofs.columns.zones.instants_in.Goals as goal

pub returns-in-Some-single : goal.returns-in-Some-single
returns-in-Some-single c = λ order held.
    let zone = c.args.zone.now in
    let span = c.span_by.ensures.span order in (
      span,
      record {
        set = λ i. subst (λ (x : ℤ). (i ≡ x) ↔ (local_at zone i ≡ c.args.reading)) (sym (to_z-of_z w64 c.in-Some-single.instant (search rules)))
            (subst (λ (r : ℤ). (i ≡ c.in-Some-single.instant) ↔ (local_at zone i ≡ r)) (to_z-of_z w64 c.args.reading c.ranges.reading)
            (c.in-Some-single.ensures.only zone order span i));
        explained = tt;
      },
    )

pub returns-in-None : goal.returns-in-None
returns-in-None c = λ order held.
    let zone = c.args.zone.now in
    let is = to_z-of_z w64 c.args.reading c.ranges.reading in (
      c.span_by.ensures.span order,
      record {
        set = λ i. subst (λ (r : ℤ). Names c.instants_near_change.result i ↔ (local_at zone i ≡ r)) is (c.instants_near_change.ensures.set order i);
        explained = subst (λ (r : ℤ). IsExplained zone r c.instants_near_change.result) is (c.instants_near_change.ensures.explained order);
      },
    )

use Rattle.std.proofs.Common.{◌≡◌, ◌∙◌, refl, sym, ap}
use Rattle.std.specs.Prelude.{ℤ, Option, Some, None, SomeIff}
use Rattle.cal_schedule_tests.proofs.tests.zones.tzif.one_answer.single.Goals as goal

some-one : (r s : Option ℤ) (P : Type 0) (v : ℤ) → SomeIff r P v → SomeIff s P v → r ≡ s
some-one None None P v h k = refl
some-one None (Some y) P v h k = absurd (h k.0)
some-one (Some x) None P v h k = absurd (k h.0)
some-one (Some x) (Some y) P v h k = ap (λ (z : ℤ). Some z) (h.1 ∙ sym k.1)

pub returns : goal.returns
returns c = some-one c.single.result c.single-2.result _ _ c.single.ensures.value c.single-2.ensures.value

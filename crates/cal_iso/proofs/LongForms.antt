-- A parser of a form with a fraction returns the one value of a text, or nothing if the text has none.
use Rattle.std.proofs.Common.{◌≡◌, ℕ, ◌+◌, List, Option, Some, None, ap}
use Rattle.std.specs.Prelude.{IfSome}
use Rattle.cal_text.specs.Shape.{Shape, End}
use Rattle.cal_text.proofs.Positions.{AreShapesOf, stopped_large}
use Rattle.cal_iso.specs.IsoShape.{ScansWholeLong, any_length}

pub found_long : {V : Type 0} (Has : List ℕ → V → Type 0) (part : ℕ → Shape → Shape) → AreShapesOf Has (λ k. part (k + any_length) End) → (text rest : List ℕ) (r : Option V)
    → ScansWholeLong part text rest r → IfSome r (Has text) → (v : V) → Has text v → r ≡ Some v
found_long Has part shape text rest None scans value v has = absurd ((stopped_large Has (λ k. part (k + any_length) End) shape text rest (λ k few. scans k)).none v has)
found_long Has part shape text rest (Some w) scans value v has = ap Some (shape.one text w v value has)

-- A parser of a form returns the one value of a text, or nothing if the text has none.
use Rattle.std.proofs.Common.{◌≡◌, ℕ, ◌≤◌, List, length, Option, Some, None, ap}
use Rattle.std.specs.Prelude.{IfSome}
use Rattle.cal_text.specs.Shape.{Shape, ScansWhole}
use Rattle.cal_text.proofs.Positions.{AreShapesOf, IsShapeOf, stopped, stopped_large}

pub found_large : {V : Type 0} (Has : List ℕ → V → Type 0) (f : ℕ → Shape) → AreShapesOf Has f → (text rest : List ℕ) (r : Option V)
    → ((k : ℕ) → length text ≤ k → ScansWhole (f k) text rest r) → IfSome r (Has text) → (v : V) → Has text v → r ≡ Some v
found_large Has f shape text rest None scans value v has = absurd ((stopped_large Has f shape text rest scans).none v has)
found_large Has f shape text rest (Some w) scans value v has = ap Some (shape.one text w v value has)

pub found : {V : Type 0} (Has : List ℕ → V → Type 0) (f : Shape) → IsShapeOf Has f → (text rest : List ℕ) (r : Option V)
    → ScansWhole f text rest r → IfSome r (Has text) → (v : V) → Has text v → r ≡ Some v
found Has f shape text rest None scans value v has = absurd ((stopped Has f shape text rest scans).none v has)
found Has f shape text rest (Some w) scans value v has = ap Some (shape.one text w v value has)

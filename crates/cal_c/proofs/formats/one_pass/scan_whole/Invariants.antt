use Rattle.std.proofs.Common.{List, ℕ, length}
use Rattle.cal_format.specs.declared.fields.Fields.{Fields}
use Rattle.cal_c.specs.OnePass.{AreItemsOf, ScansItems}
use Rattle.cal_c.proofs.formats.one_pass.scan_whole.Given as goal

abbrev pub invariant-loop-left : goal.invariant-loop-left
invariant-loop-left l =
    (new : Fields) (end : List ℕ) → AreItemsOf l.left (ScansItems l.fields new l.scanner.rest.now end) → AreItemsOf l.fn.parts (ScansItems l.fn.fields new l.fn.text end)

abbrev pub decreases-loop-left : goal.decreases-loop-left
decreases-loop-left l = length l.left

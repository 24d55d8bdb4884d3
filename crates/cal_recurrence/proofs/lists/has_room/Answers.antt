use Rattle.std.proofs.Common.{arith, eqb}
use Rattle.std.proofs.lemmas.Bool.Decides.{nat_tests}
use Rattle.std.proofs.lemmas.List.Splits.{length-slice_split}
use Rattle.cal_recurrence.proofs.lists.has_room.Goals as goal

pub returns : goal.returns
returns c = grind (arith, nat_tests, c.commas.ensures, length-slice_split (λ b. eqb b 44) c.args.value.now)

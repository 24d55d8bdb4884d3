use Rattle.std.proofs.Common.{[], ◌∷◌, arith, cond, refl, subst, sym}
use Rattle.cal_recurrence.specs.Buffers.{IsPut}
use Rattle.cal_recurrence.proofs.Puts.{then_put}
use Rattle.cal_recurrence.proofs.folding.put_folded.Goals as goal

pub returns-in_ok-next : goal.returns-in_ok-next
returns-in_ok-next c =
    let bytes = c.args.bytes.now in
    let last = c.put-then-folds in
    subst (λ t. IsPut c.args.at (cond t (13 ∷ 10 ∷ 32 ∷ bytes) bytes) c.args.buffer.now last.new.buffer last.result) (sym c.if-folds.true)
    (then_put c.args.at c.in_ok-next.next (13 ∷ 10 ∷ 32 ∷ []) bytes (13 ∷ 10 ∷ 32 ∷ bytes) c.args.buffer.now c.put.new.buffer last.new.buffer last.result
    (omega (arith, c.put.auto.buffer)) c.in_ok-next.ensures last.ensures refl)

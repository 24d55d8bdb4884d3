use Rattle.std.proofs.Common.{◌+◌, ◌-◌, ◌++◌, ◌∙◌, ap, arith, length, refl, rules, take}
use Rattle.std.proofs.lemmas.Slice.{drop-put_mid, take-put_mid}
use Rattle.cal_recurrence.proofs.buffers.put.Goals as goal

pub returns : goal.returns
returns c =
    let at = c.args.at in
    let count = length c.args.bytes.now in
    let old = c.args.buffer.now in
    let new = c.copy_from_slice.new.self in (
      refl,
      omega (arith, c.requires, c.if-bytes-buffer.false),
      take-put_mid at (at + count - at) old new (at + count) (omega (arith, ap length c.copy_from_slice.ensures.after)) (omega (arith, c.requires))
          ∙ ap (λ bytes. take at old ++ bytes) c.copy_from_slice.ensures.after,
      drop-put_mid at (at + count - at) old new (at + count) (omega arith) (omega (arith, c.requires)) (search rules),
    )

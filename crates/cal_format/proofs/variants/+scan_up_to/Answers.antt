use Rattle.std.proofs.Common.{◌^◌, arith, sym, subst, inr}
use Rattle.cal_text.proofs.ReadDigits.{more_after, room, small}
use Rattle.cal_format.specs.Lenient.{IsOut}
use Rattle.cal_format.proofs.VariantScans.{no-digit}
use Rattle.cal_format.proofs.variants.+scan_up_to.Goals as goal

pub overflow_mul-number : goal.overflow_mul-number
overflow_mul-number t c =
    let next = room (10 ^ 9) _ _ _ c.if-most-eq0.false c.in-Some.ensures.value.0 c.requires in
    omega (arith, small _ _ _ next)

pub overflow_add-number : goal.overflow_add-number
overflow_add-number t c =
    let next = room (10 ^ 9) _ _ _ c.if-most-eq0.false c.in-Some.ensures.value.0 c.requires in
    omega (arith, small _ _ _ next)

pub scan_up_to-requires : goal.scan_up_to-requires
scan_up_to-requires t c = (omega (arith, c.if-most-eq0.false), rw c.from.ensures (room (10 ^ 9) _ _ _ c.if-most-eq0.false c.in-Some.ensures.value.0 c.requires))

pub returns-in-Some-clause-value : goal.returns-in-Some-clause-value
returns-in-Some-clause-value t c = more_after c.args.most _ _ c.args.number _ _ _ c.if-most-eq0.false c.in-Some.ensures.value (rw c.from.ensures at c.scan_up_to.ensures.value)

pub returns-in-None-clause-end : goal.returns-in-None-clause-end
returns-in-None-clause-end t c = inr (subst (IsOut 10 48) (sym c.in-None.ensures.unchanged) (no-digit _ _ c.in-None.ensures.scans))

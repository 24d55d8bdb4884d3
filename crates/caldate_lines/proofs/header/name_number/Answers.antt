use Rattle.std.proofs.Common.{◌∙◌, arith, sym}
use Rattle.caldate_lines.proofs.HeaderNames.{longer, name_found, name_passed}
use Rattle.caldate_lines.proofs.header.name_number.Goals as goal

pub has_name-requires : goal.has_name-requires
has_name-requires c = omega (arith, longer _ _ _ _ c.in-Some.ensures.whole, c.loop-part.invariant.1, c.loop-part.invariant.2, c.requires)

pub overflow_add-number : goal.overflow_add-number
overflow_add-number c = omega (arith, longer _ _ _ _ c.in-Some.ensures.whole, c.loop-part.invariant.1, c.requires)

pub loop-part-preserved : goal.loop-part-preserved
loop-part-preserved c = (
  name_passed c.args.field c.args.name.now c.in-Some.part.now _ _ c.loop-part.number _ c.in-Some.ensures.fields (sym c.has_name.ensures ∙ c.if-has_name.false) c.loop-part.invariant.0,
  omega (arith, longer _ _ _ _ c.in-Some.ensures.whole, c.loop-part.invariant.1),
  omega arith,
)

pub loop-part-smaller : goal.loop-part-smaller
loop-part-smaller c = omega (arith, longer _ _ _ _ c.in-Some.ensures.whole)

pub has_name-requires-2 : goal.has_name-requires-2
has_name-requires-2 c = omega (arith, c.loop-part.invariant.1, c.loop-part.invariant.2, c.requires)

pub returns-then-has_name : goal.returns-then-has_name
returns-then-has_name c =
    name_found c.args.field c.args.name.now c.in-Some.part.now _ _ c.loop-part.number _ c.in-Some.ensures.fields (sym c.has_name.ensures ∙ c.if-has_name.true) c.loop-part.invariant.0

pub returns-then-has_name-2 : goal.returns-then-has_name-2
returns-then-has_name-2 c =
    name_found c.args.field c.args.name.now c.loop-part.rest.now _ _ c.loop-part.number _ c.in_default.ensures.fields (sym c.has_name-2.ensures ∙ c.if-has_name-2.true) c.loop-part.invariant.0

pub returns-else-has_name-2 : goal.returns-else-has_name-2
returns-else-has_name-2 c =
    name_passed c.args.field c.args.name.now c.loop-part.rest.now _ _ c.loop-part.number _ c.in_default.ensures.fields (sym c.has_name-2.ensures ∙ c.if-has_name-2.false) c.loop-part.invariant.0

use Rattle.std.proofs.Common.{◌∙◌, arith, w64, w32}
use Rattle.std.proofs.lemmas.Int.{ints, to_z-of_z}
use Rattle.cal_zone.proofs.Spans.{just_before, span_of}
use Rattle.cal_zone.proofs.unchecked_zone.UncheckedZone.span_of.Goals as goal

pub returns-clause-span : goal.returns-clause-span
returns-clause-span c = λ order.
    let first = to_z-of_z w64 c.start_of.result (omega (arith, ints)) in
    let last = to_z-of_z w64 c.end_of.result (omega (arith, ints)) in
    span_of c.args.self.now order _ _ _ c.args.count c.requires (λ k e. first ∙ c.start_of.ensures.change k e)
    (λ within. just_before _ _ (last ∙ c.end_of.ensures.change order within)) (to_z-of_z w32 c.after.result (omega (arith, ints)) ∙ c.after.ensures)

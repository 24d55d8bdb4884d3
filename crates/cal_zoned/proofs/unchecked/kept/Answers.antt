use Rattle.std.proofs.Common.{◌≡◌, ◌∙◌, ap, arith, w64, ℤ}
use Rattle.std.proofs.lemmas.Int.{ints, to_z-of_z}
use Rattle.cal_zoned.proofs.ZoneResults.{kept_here, not_kept}
use Rattle.cal_zoned.proofs.unchecked.kept.Goals as goal

pub returns-then-eq : goal.returns-then-eq
returns-then-eq c = λ order.
    let at_second = to_z-of_z w64 c.unix_timestamp.result (omega (arith, ints)) ∙ c.unix_timestamp.ensures.value in
    let same : c.in-Some.offset ≡ c.args.moment.offset = grind (arith, ints, c.eq.ensures, c.if-eq.true, c.offset-2.ensures.value) in
    kept_here c.args.policy c.args.zone.now c.args.moment c.assume_offset-here.result c.args.reading _ c.in-Some.offset
    (c.assume_offset-here.ensures.value ∙ ap (λ (o : ℤ). record { local = c.args.reading; offset = o }) c.offset.ensures.value) at_second (c.in-Some.ensures.some order) same

pub returns-else-eq : goal.returns-else-eq
returns-else-eq c = λ order.
    let at_second = to_z-of_z w64 c.unix_timestamp.result (omega (arith, ints)) ∙ c.unix_timestamp.ensures.value in
    let other : ¬ (c.in-Some.offset ≡ c.args.moment.offset) = grind (arith, ints, c.eq.ensures, c.if-eq.false, c.offset-2.ensures.value) in
    not_kept c.args.policy c.args.zone.now c.args.moment c.assume_offset-here.result c.args.reading _ c.in-Some.offset _
    (c.assume_offset-here.ensures.value ∙ ap (λ (o : ℤ). record { local = c.args.reading; offset = o }) c.offset.ensures.value) at_second (c.in-Some.ensures.some order) other (c.resolved.ensures order)

use Rattle.std.proofs.Common.{◌∙◌, rules, sym, inl, inr, FitsSigned, w64}
use Rattle.std.proofs.lemmas.Bool.{false≢true}
use Rattle.std.proofs.lemmas.Int.{to_z-of_z}
use Rattle.cal_zone.proofs.span.Span.is_near.Goals as goal

pub returns-then-is_short : goal.returns-then-is_short
returns-then-is_short c =
    let instant = c.ranges.instant in
    let last : FitsSigned w64 c.args.self.last = search rules in
    let after = simp to_z-of_z at c.is_short.ensures in
    ((λ yes. inl (after.0 yes)), (λ near. c.if-is_short.true))

pub returns-else-is_short : goal.returns-else-is_short
returns-else-is_short c =
    let instant = c.ranges.instant in
    let first : FitsSigned w64 c.args.self.first = search rules in
    let last : FitsSigned w64 c.args.self.last = search rules in
    let after = simp to_z-of_z at c.is_short.ensures in
    let before = simp to_z-of_z at c.is_short-else-is_short.ensures in (
      (λ yes. inr (before.0 yes)),
      (λ near. elim near [ inl near ↦ absurd (false≢true (sym c.if-is_short.false ∙ after.1 near)) | inr near ↦ before.1 near ]),
    )

use Rattle.std.proofs.Common.{[], ◌∷◌, length, sym, ◌∙◌, arith}
use Rattle.std.proofs.lemmas.Bool.{eq-eqb, eqb-true}
use Rattle.cal_text.proofs.Stops.{completed}
use Rattle.cal_named_format.specs.Named.{shape_in}
use Rattle.cal_named_format.proofs.Ambiguities.{one-byte}
use Rattle.cal_named_format.proofs.reading.can_begin.Goals as goal

pub returns-in-None : goal.returns-in-None
returns-in-None c =
    let shape = shape_in c.args.names.now c.args.items.now in
    let rest = c.scan_form.new.scanner.rest.now in (
      λ t. completed shape (c.args.byte ∷ []) [] (omega (arith, c.in-None.ensures, eqb-true (length rest) 0 (sym c.is_empty.ensures ∙ t))),
      λ h. c.is_empty.ensures ∙ eq-eqb (length rest) 0 (omega (arith, c.in-None.ensures, one-byte c.args.names.now c.args.items.now c.args.byte h)),
    )

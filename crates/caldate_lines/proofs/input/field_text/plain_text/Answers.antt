use Rattle.std.proofs.Common.{◌∙◌, ap, arith, refl, sym}
use Rattle.caldate_lines.specs.Fields.{field_text}
use Rattle.caldate_lines.proofs.FieldTexts.{quoted_text}
use Rattle.caldate_lines.proofs.Parts.{no_separator}
use Rattle.caldate_lines.proofs.input.field_text.plain_text.Goals as goal

pub returns-clause-text : goal.returns-clause-text
returns-clause-text c =
    let quote = c.if-not-starts_with_quote.false in
    quoted_text c.args.part.now _ (sym c.starts_with_quote.ensures.value ∙ quote) (c.starts_with_quote.ensures.some quote) refl (omega (arith, c.if-end-eq0.false)) c.if-part-end-ne34.false
    (no_separator 34 _ (c.has_quote.ensures c.if-has_quote.false)) ∙ ap (λ b. field_text b c.args.part.now) (sym c.if-not-csv.false)

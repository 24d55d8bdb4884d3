use Rattle.std.proofs.Common.{◌∙◌, ◌-◌, arith, drop, length, length-drop, length-take, sym, take}
use Rattle.caldate_lines.proofs.FieldTexts.{next_doubled}
use Rattle.caldate_lines.proofs.input.field_text.FieldText.push_unquoted.Goals as goal

pub loop-rest-preserved : goal.loop-rest-preserved
loop-rest-preserved c =
    let rest = c.loop-rest.rest.now in
    let others = take (length rest - 1) (drop 1 rest) in
    let quote = c.if-starts_with_quote.true in (
      next_doubled c.loop-rest.self _ rest _ c.in-len1-up.len_at_least c.if-byte-ne34.false (c.starts_with_quote.ensures.some quote)
          (sym c.starts_with_quote.ensures.value ∙ quote) c.push-then-starts_with_quote.ensures.appended c.loop-rest.invariant.0,
      omega (arith, c.loop-rest.invariant.1, c.push-then-starts_with_quote.ensures.longer, c.in-len1-up.len_at_least, length-drop 1 rest, length-take (length rest - 1) (drop 1 rest), length-drop 1 others, length-take (length others - 1) (drop 1 others)),
    )

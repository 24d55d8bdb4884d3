use Rattle.std.proofs.Common.{◌≡◌, ◌∙◌, ◌++◌, ◌∷◌, [], true, false, cond, ap, append_assoc, sym, take, drop, take-append-drop}
use Rattle.std.specs.Prelude.{◌&&◌}
use Rattle.caldate_lines.specs.Fields.{needs_quotes}
use Rattle.caldate_lines.proofs.NewFields.{escaped_end, plain_end}
use Rattle.caldate_lines.proofs.record.end_field.Goals as goal
use Rattle.caldate_lines.proofs.record.end_field.Goals.{then-field+then-needs_quotes, else-field, else-field-via-then-field+else-needs_quotes, else-field-via-else-field}

pub returns-clause-text : goal.returns-clause-text
returns-clause-text c =
    let field = c.args.field in
    let quoted = c.args.quoted in
    let front = take c.args.start c.args.buffer.now in
    let words = drop c.args.start c.args.buffer.now in
    let quote = cond quoted (34 ∷ []) [] in
    elim c.if-field.branch [
      | then-field+then-needs_quotes w ↦
          let needs = ap (needs_quotes field.separator) (sym w.after.ensures) ∙ sym w.needs_quotes.ensures ∙ w.if-needs_quotes.true in
          let test : (field.csv && needs_quotes field.separator words) ≡ true = ap (λ b. b && needs_quotes field.separator words) w.if-field.true ∙ needs in
          c.push_quote.ensures ∙ ap (λ l. l ++ quote) (w.buffer-is ∙ w.escape_from.ensures.text) ∙ append_assoc front _ quote
          ∙ ap (λ l. front ++ l) (escaped_end field quoted words test)
      | else-field w ↦
          let test : (field.csv && needs_quotes field.separator words) ≡ false =
          elim w.else-field.branch [
            | else-field-via-then-field+else-needs_quotes v ↦ ap (λ b. b && needs_quotes field.separator words) v.if-field.true
                ∙ (ap (needs_quotes field.separator) (sym v.after.ensures) ∙ sym v.needs_quotes.ensures ∙ v.if-needs_quotes.false)
            | else-field-via-else-field v ↦ ap (λ b. b && needs_quotes field.separator words) v.if-field.false
          ] in
          c.push_quote.ensures ∙ ap (λ l. l ++ quote) (w.buffer-is ∙ sym (take-append-drop c.args.start c.args.buffer.now)) ∙ append_assoc front words quote
          ∙ ap (λ l. front ++ l) (plain_end field quoted words test c.requires.csv)
    ]

use Rattle.std.proofs.Common.{◌∙◌, ℕ, Option, ap, subst, sym}
use Rattle.std.specs.Prelude.{◌&&◌}
use Rattle.caldate_lines.specs.declared.no_answer.NoAnswer.{NoAnswer}
use Rattle.caldate_run.specs.Pieces.{IsOutOf, fields_from}
use Rattle.caldate_run.specs.Runs.{AppendsOut}
use Rattle.caldate_run.proofs.PieceOuts.{fields_out, no_fields_out}
use Rattle.caldate_run.proofs.run.pieces.+push_fields_from.Goals.{then-goes_out, else-goes_out}
use Rattle.caldate_run.proofs.run.pieces.+push_fields_from.Goals as goal

pub returns-clause-out : goal.returns-clause-out
returns-clause-out t c =
    let pieces = fields_from c.args.field c.args.text.now c.args.at c.args.fields.now in
    subst (λ (first : Option (ℕ × NoAnswer)). AppendsOut (IsOutOf c.args.filter.now c.args.text.now pieces.texts pieces.rest first) c.if-goes_out.both c.args.buffer.now c.keep.new.buffer) (sym c.earlier.ensures)
    (fields_out c.args.filter.now c.args.field c.with_numbers.result c.args.fields.now _ c.args.text.now c.args.at c.field_piece-piece.result.1 c.field_piece-piece.result.0 c.push_piece-goes_out.result.1
    c.push_fields_from-goes_on.result.1 c.push_piece-goes_out.result.0 c.push_fields_from-goes_on.result.0 c.if-goes_out.both c.args.buffer.now c.push_piece-goes_out.new.buffer
    c.push_fields_from-goes_on.new.buffer c.keep.new.buffer c.len-start.result c.in-len1-up.len_at_least c.with_numbers.ensures c.field_piece-piece.ensures.piece c.field_piece-piece.ensures.end c.len-start.ensures
    c.push_piece-goes_out.ensures.out c.push_fields_from-goes_on.ensures.out (elim c.if-goes_out.branch [ then-goes_out w ↦ w.both-is ∙ sym (ap (λ b. b && c.push_fields_from-goes_on.result.0) w.if-goes_out.true) | else-goes_out w ↦ w.both-is ∙ w.if-goes_out.false ∙ sym (ap (λ b. b && c.push_fields_from-goes_on.result.0) w.if-goes_out.false) ]) c.keep.ensures)

pub returns-in_default-clause-out : goal.returns-in_default-clause-out
returns-in_default-clause-out t c =
    no_fields_out c.args.filter.now c.args.field c.args.fields.now c.args.text.now c.args.at c.args.buffer.now c.push.new.self c.in_default.len_below c.push.ensures.appended

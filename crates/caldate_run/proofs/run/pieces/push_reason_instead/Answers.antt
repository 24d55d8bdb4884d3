use Rattle.std.proofs.Common.{◌∙◌, ◌++◌, ap, cond, sym}
use Rattle.caldate_lines.specs.Reasons.{reason}
use Rattle.caldate_run.specs.Pieces.{placed}
use Rattle.caldate_run.proofs.PieceOuts.{words_placed}
use Rattle.caldate_run.proofs.run.pieces.push_reason_instead.Goals as goal

pub returns-clause-text : goal.returns-clause-text
returns-clause-text c =
    let field = c.args.field in
    let source = c.args.source.now in
    let words = reason c.args.why in
    words_placed field c.open_words-quoted.result source words c.args.buffer.now c.open_words-quoted.new.buffer c.push_reason.new.buffer c.close_words.new.buffer c.len-words.result
    c.open_words-quoted.ensures.quoted c.open_words-quoted.ensures.text c.len-words.ensures c.push_reason.ensures.text c.close_words.ensures.text
    ∙ ap (λ b. c.args.buffer.now ++ cond b (placed field source words) source) (sym (sym c.has_place.ensures ∙ c.if-not-has_place.false))

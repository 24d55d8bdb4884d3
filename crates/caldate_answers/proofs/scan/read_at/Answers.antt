use Rattle.std.proofs.Common.{◌∙◌, ap, sym}
use Rattle.std.proofs.lemmas.Bool.{false≢true}
use Rattle.caldate_answers.specs.Scans.{is_likely, is_of_word}
use Rattle.caldate_answers.proofs.Scans.{read_there}
use Rattle.caldate_answers.proofs.scan.read_at.Goals as goal

pub returns-then-is_of_word : goal.returns-then-is_of_word
returns-then-is_of_word c = λ h.
    false≢true (sym h.after ∙ ap is_of_word (sym c.byte_at.ensures) ∙ sym c.is_of_word.ensures ∙ c.if-is_of_word.true)

pub returns-then-is_likely : goal.returns-then-is_likely
returns-then-is_likely c =
    let after = ap is_of_word (sym c.byte_at.ensures) ∙ sym c.is_of_word.ensures ∙ c.if-is_of_word.false in
    read_there c.args.filter.now c.args.line.now c.args.place c.args.count c.part_at-bytes.result.now c.read_text.result
    c.requires.within c.requires.before after c.part_at-bytes.ensures.part (sym c.is_likely.ensures ∙ c.if-is_likely.true) c.read_text.ensures

pub returns-else-is_likely : goal.returns-else-is_likely
returns-else-is_likely c = λ h.
    false≢true (sym c.if-is_likely.false ∙ c.is_likely.ensures ∙ ap (is_likely c.args.filter.now) c.part_at-bytes.ensures.part ∙ h.likely)

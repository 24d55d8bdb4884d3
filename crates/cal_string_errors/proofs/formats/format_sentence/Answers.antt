use Rattle.std.proofs.Common.{inl}
use Rattle.cal_string_errors.proofs.FieldSentences.{of-numbers}
use Rattle.cal_string_errors.proofs.formats.format_sentence.Goals as goal

pub returns-in-Some : goal.returns-in-Some
returns-in-Some c =
    let found = c.in-Some.ensures.value in
    inl (found.0, found.1, of-numbers c.args.component c.args.format.now found.0 c.in-Some.fields _ found.2 c.sentence_of.ensures)

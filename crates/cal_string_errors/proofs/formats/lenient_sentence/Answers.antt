use Rattle.std.proofs.Common.{◌≡◌, inl, subst}
use Rattle.cal_format.specs.Lenient.{items_of}
use Rattle.cal_format.specs.Scanning.{number_at}
use Rattle.cal_string_errors.specs.Formats.{sentence_of}
use Rattle.cal_string_errors.proofs.FieldSentences.{of-numbers}
use Rattle.cal_string_errors.proofs.formats.lenient_sentence.Goals as goal

pub returns-in-Some : goal.returns-in-Some
returns-in-Some c =
    let found = c.in-Some.ensures.value in
    let own = subst (λ items. c.sentence_of.result ≡ sentence_of c.args.component items (λ k. number_at k c.in-Some.fields)) c.in_ok-known.ensures.items c.sentence_of.ensures in
    inl (found.0, found.1, of-numbers c.args.component (items_of c.args.format.now) found.0 c.in-Some.fields _ found.2 own)

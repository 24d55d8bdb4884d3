use Rattle.std.proofs.Common.{subst}
use Rattle.caldate_answers.specs.Readers.{IsTextBy, IsUnreadBy}
use Rattle.caldate_answers.specs.Spellings.{full_by}
use Rattle.caldate_answers.proofs.TextBounds.{rejected_form, spelled_form, text_form, unspelled_form}
use Rattle.caldate_answers.proofs.TextStarts.{any_usual, iso_usual}
use Rattle.caldate_answers.proofs.scan.start.is_usual.Goals as goal

pub returns-in-Named-clause-text : goal.returns-in-Named-clause-text
returns-in-Named-clause-text c = λ on assumptions bytes found some h.
    let reading = c.in-Named.reading in
    any_usual reading bytes (c.is_any.ensures on) some (text_form reading bytes found (subst (λ r. IsTextBy assumptions r bytes found) c.in-Named.is h))

pub returns-in-Named-clause-rejected : goal.returns-in-Named-clause-rejected
returns-in-Named-clause-rejected c = λ on assumptions bytes any some h e.
    let reading = c.in-Named.reading in
    any_usual reading bytes (c.is_any.ensures on) some (rejected_form reading bytes any (subst (λ r. IsUnreadBy assumptions r bytes any) c.in-Named.is h) e)

pub returns-in-Spelled-clause-text : goal.returns-in-Spelled-clause-text
returns-in-Spelled-clause-text c = λ on assumptions bytes found some h.
    let spelling = c.in-Spelled.spelling in
    iso_usual spelling bytes (c.is_iso.ensures on) some (spelled_form (full_by spelling bytes) found (subst (λ r. IsTextBy assumptions r bytes found) c.in-Spelled.is h))

pub returns-in-Spelled-clause-rejected : goal.returns-in-Spelled-clause-rejected
returns-in-Spelled-clause-rejected c = λ on assumptions bytes any some h e.
    let spelling = c.in-Spelled.spelling in
    iso_usual spelling bytes (c.is_iso.ensures on) some (unspelled_form spelling bytes any (subst (λ r. IsUnreadBy assumptions r bytes any) c.in-Spelled.is h) e)

use Rattle.std.proofs.Common.{◌≡◌, List, ℕ, subst}
use Rattle.std.specs.Prelude.{Option}
use Rattle.std.proofs.lemmas.Int.{to_z-of_z}
use Rattle.std.proofs.lemmas.Option.{same_Some}
use Rattle.cal_c.specs.Errors.{IsReadSentence, error_text, text_or_sentence}
use Rattle.cal_c.proofs.errors.formats.fots_format_error_text.Goals as goal

pub returns-in-Some-clause-component : goal.returns-in-Some-clause-component
returns-in-Some-clause-component c k e items has =
    let status = c.ranges.status in
    let pivot = c.ranges.pivot in
    let found = simp to_z-of_z at c.read_error_text.ensures.component in
    subst (λ items. (r : Option (List ℕ)) × IsReadSentence k items c.args.text.now c.args.pivot r × (c.read_error_text.result ≡ error_text (text_or_sentence c.args.status c.args.position r)))
    (same_Some _ _ (c.in-Some.ensures.every items has)) (found k e)

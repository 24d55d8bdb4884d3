use Rattle.std.proofs.Common.{◌∙◌, subst, w32}
use Rattle.std.proofs.lemmas.Int.{to_z-of_z}
use Rattle.std.proofs.lemmas.Option.{same_Some}
use Rattle.cal_c.specs.Errors.{IsReadSentence}
use Rattle.cal_c.proofs.errors.formats.read_error_text.Goals as goal

pub returns-in-Some-clause-component : goal.returns-in-Some-clause-component
returns-in-Some-clause-component c k e =
    let same = to_z-of_z w32 _ c.ranges.status in
    let status = c.ranges.status in
    let pivot = c.ranges.pivot in
    let read = simp to_z-of_z at c.read_sentence-sentence.ensures in
    let text = simp to_z-of_z at c.text_or_sentence.ensures in
    let r = c.read_sentence-sentence.result in
    (r, subst (λ k. IsReadSentence k c.args.format c.args.text.now c.args.pivot r) (same_Some _ _ (c.in-Some.ensures.every k (same ∙ e))) read, text)

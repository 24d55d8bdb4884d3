use Rattle.std.proofs.Common.{◌≡◌, ◌-◌, ◌++◌, length, take, drop, refl, sym, ap, subst, ◌∙◌, arith}
use Rattle.std.proofs.Math.Seq.{drop-append_seam}
use Rattle.std.proofs.lemmas.List.{length-drop, take-append-drop, take_all}
use Rattle.cal_named_format.specs.Ambiguity.{CanGoOn}
use Rattle.cal_named_format.proofs.Ambiguities.{begin-on, on-begin}
use Rattle.cal_named_format.proofs.reading.are_ambiguous.Goals as goal

pub returns-in-len1-up : goal.returns-in-len1-up
returns-in-len1-up c =
    let x = c.args.name.now in
    let y = c.args.other.now in
    let n = length x in
    let more = take (length y - n) (drop n y) in
    let rest : more ≡ drop n y = take_all (length y - n) (drop n y) (omega (arith, length-drop n y)) in
    let front : take n y ≡ x = c.if-not-is_same.ensures.0 refl in
    let begin = c.can_begin.ensures in
    let some = c.in-len1-up.len_at_least in (
      λ t. (more, sym (take-append-drop n y) ∙ ap (λ l. l ++ drop n y) front ∙ ap (λ l. x ++ l) (sym rest), begin-on c.args.names.now c.args.items.now more 0 some (begin.0 t)),
      λ h. begin.1 (on-begin c.args.names.now c.args.items.now more 0 some (subst (CanGoOn c.args.names.now c.args.items.now) (sym (drop-append_seam x h.0) ∙ ap (drop n) (sym h.1) ∙ sym rest) h.2)),
    )

use Rattle.std.proofs.Common.{◌≡◌, ◌∙◌, ap, subst, sym}
use Rattle.caldate_answers.specs.Leniency.{IsForSameValues, items_in, read_items}
use Rattle.caldate_answers.proofs.reading.lenient.lenient_format.Goals as goal

pub returns-clause-every : goal.returns-clause-every
returns-clause-every c = λ found h.
    let items = c.lenient_with-lenient.ensures.items ∙ c.read_items-items.ensures ∙ ap (read_items c.args.pivot) c.as_format.ensures in
    let made : c.lenient_with-lenient.result ≡ record { format = read_items c.args.pivot (items_in c.args.format.now); pivot = c.args.pivot } =
    λ i. record { format = items i; pivot = c.lenient_with-lenient.ensures.pivot i } in
    c.for_same_values.ensures.every found (subst (λ f. IsForSameValues c.args.format.now f found) (sym made) h)

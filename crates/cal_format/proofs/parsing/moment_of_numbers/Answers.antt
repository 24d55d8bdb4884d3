use Rattle.std.proofs.Common.{◌≡◌, sym, ap, ◌∙◌, subst, inr, arith, Ok}
use Rattle.cal_format.specs.declared.item.Component.{Component}
use Rattle.cal_format.specs.Scanning.{number_at}
use Rattle.cal_format.specs.Ranges.{first_range_error}
use Rattle.cal_format.specs.Values.{number_in, IsMomentOf, first_contradiction}
use Rattle.cal_format.proofs.Contradictions.{same-text, time-holds, offset-holds}
use Rattle.cal_format.proofs.Outcomes.{no-value, no-result, result-or}
use Rattle.cal_format.proofs.Own.{held-moment, own-range, own-contradiction}
use Rattle.cal_format.proofs.Rejections.{all-most}
use Rattle.cal_format.proofs.parsing.moment_of_numbers.Goals as goal

pub returns-in-Some-clause-every : goal.returns-in-Some-clause-every
returns-in-Some-clause-every c v holds e =
    let items = c.args.format.now in
    let error = c.in-Some.ensures ∙ ap (λ l. first_range_error l c.args.numbers.now) c.items-items.ensures.items in
    absurd (no-value _ (sym (ap (λ l. first_range_error items l) e ∙ own-range items v holds.in_range holds.numbers) ∙ sym error))

pub moment_of-requires : goal.moment_of-requires
moment_of-requires c = λ k.
    let items = c.args.format.now in
    let numbers = c.args.numbers.now in
    let filled = c.fill.ensures k ∙ ap (λ l. number_in l numbers k) c.items-items.ensures.items in
    let none = c.in_default.ensures ∙ ap (λ l. first_range_error l numbers) c.items-items.ensures.items in
    omega (arith, filled, all-most items numbers k c.requires.fit (sym none))

pub returns-in-Some-first_contradiction-clause-every : goal.returns-in-Some-first_contradiction-clause-every
returns-in-Some-first_contradiction-clause-every c v holds e =
    let items = c.args.format.now in
    let numbers = c.args.numbers.now in
    let filled = λ (k : Component). c.fill.ensures k ∙ ap (λ l. number_in l numbers k) c.items-items.ensures.items in
    let some = c.in-Some-first_contradiction.ensures ∙ ap (λ l. first_contradiction l numbers c.in-Ok.moment) c.items-items.ensures.items in
    let m = ap (result-or c.in-Ok.moment) (c.in-Ok.ensures.every v (held-moment items numbers c.fill.new.self v holds e filled)) in
    absurd (no-value _ (sym ((λ i. first_contradiction items (e i) (m i)) ∙ own-contradiction items v holds.numbers) ∙ sym some))

pub returns-in-None-clause-every : goal.returns-in-None-clause-every
returns-in-None-clause-every c v holds e =
    let numbers = c.args.numbers.now in
    let filled = λ (k : Component). c.fill.ensures k ∙ ap (λ l. number_in l numbers k) c.items-items.ensures.items in
    ap (λ m. Ok m) (ap (result-or c.in-Ok.moment) (c.in-Ok.ensures.every v (held-moment c.args.format.now numbers c.fill.new.self v holds e filled)))

pub returns-in-None-clause-value : goal.returns-in-None-clause-value
returns-in-None-clause-value c =
    let items = c.args.format.now in
    let numbers = c.args.numbers.now in
    let at : (λ (k : Component). number_at k c.fill.new.self) ≡ number_in items numbers = λ i k. (c.fill.ensures k ∙ ap (λ l. number_in l numbers k) c.items-items.ensures.items) i in
    let in_range = c.in_default.ensures ∙ ap (λ l. first_range_error l numbers) c.items-items.ensures.items in
    let agrees = c.in-None.ensures ∙ ap (λ l. first_contradiction l numbers c.in-Ok.moment) c.items-items.ensures.items in
    let most = λ (k : Component). all-most items numbers k c.requires.fit (sym in_range) in
    let value = subst (λ f. IsMomentOf items f c.in-Ok.moment) at c.in-Ok.ensures.value in
    let text = same-text items numbers c.in-Ok.moment c.requires.fit (sym agrees) in
    record {
      in_range = value.in_range;
      numbers = text.1;
      parts = time-holds items numbers c.in-Ok.moment most value;
      offset_parts = offset-holds items numbers c.in-Ok.moment most value;
      text_is = text.0;
    }

pub returns-in-Err-clause-every : goal.returns-in-Err-clause-every
returns-in-Err-clause-every c v holds e =
    let numbers = c.args.numbers.now in
    let filled = λ (k : Component). c.fill.ensures k ∙ ap (λ l. number_in l numbers k) c.items-items.ensures.items in
    absurd (no-result _ v (c.in-Err.ensures.every v (held-moment c.args.format.now numbers c.fill.new.self v holds e filled)))

pub returns-in-Err-clause-error : goal.returns-in-Err-clause-error
returns-in-Err-clause-error c =
    let items = c.args.format.now in
    let numbers = c.args.numbers.now in
    let at : number_in items numbers ≡ (λ (k : Component). number_at k c.fill.new.self) = λ i k. sym (c.fill.ensures k ∙ ap (λ l. number_in l numbers k) c.items-items.ensures.items) i in
    let in_range = c.in_default.ensures ∙ ap (λ l. first_range_error l numbers) c.items-items.ensures.items in
    inr (sym in_range, c.in-Err.ensures.error.0, λ v is. c.in-Err.ensures.error.1 v (subst (λ f. IsMomentOf items f v) at is))

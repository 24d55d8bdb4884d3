use Rattle.std.proofs.Common.{◌≡◌, suc, length, sym, subst, arith}
use Rattle.std.specs.Prelude.{IsTrue}
use Rattle.cal_text.specs.Shape.{unmatched_bytes}
use Rattle.cal_format.specs.Form.{shape_of, numbers_of, HasNumbers}
use Rattle.cal_format.specs.Reading.{are_apart}
use Rattle.cal_format.proofs.Own.{has-own}
use Rattle.cal_format.proofs.Rejections.{is-stop, rejected-at}
use Rattle.cal_format.proofs.Shapes.{has-form}
use Rattle.cal_format.proofs.Uniques.{one-numbers}
use Rattle.cal_format.proofs.parsing.parse_in_steps.Goals as goal

pub overflow_sub-text : goal.overflow_sub-text
overflow_sub-text c = (is-stop c.items-2.result.now _ _ c.in-None.ensures.scans).within

pub returns-in-None-clause-every : goal.returns-in-None-clause-every
returns-in-None-clause-every c v holds text =
    let stop = subst (λ l. unmatched_bytes (shape_of l) c.args.text.now ≡ suc (length c.scan_items.new.scanner.rest.now)) c.items-2.ensures.items c.in-None.ensures.scans in
    let own = has-own c.args.items.now v c.args.text.now holds.in_range holds.numbers text in
    absurd (omega (arith, stop, has-form c.args.items.now _ c.args.text.now c.requires.apart own))

pub returns-in-None-clause-error : goal.returns-in-None-clause-error
returns-in-None-clause-error c =
    let stop = subst (λ l. unmatched_bytes (shape_of l) c.args.text.now ≡ suc (length c.scan_items.new.scanner.rest.now)) c.items-2.ensures.items c.in-None.ensures.scans in
    rejected-at c.args.items.now _ _ _ _ stop (is-stop c.args.items.now _ _ stop).position c.unexpected.ensures.byte c.unexpected.ensures.end

pub returns-in-Some-clause-every : goal.returns-in-Some-clause-every
returns-in-Some-clause-every c v holds text =
    let items = c.args.items.now in
    let same = sym c.items-2.ensures.items in
    let apart = subst (λ l. IsTrue (are_apart l)) same c.requires.apart in
    let own = subst (λ l. HasNumbers l (numbers_of items v) c.args.text.now) same (has-own items v c.args.text.now holds.in_range holds.numbers text) in
    c.moment_of_numbers.ensures.every v holds (one-numbers c.items-2.result.now _ _ c.args.text.now apart c.in-Some.ensures.value own)

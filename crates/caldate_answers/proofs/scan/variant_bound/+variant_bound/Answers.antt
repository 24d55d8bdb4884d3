use Rattle.std.proofs.Common.{◌≡◌, ◌++◌, arith, drop, get_or, subst, take}
use Rattle.std.proofs.lemmas.Bool.Decides.{nat_tests}
use Rattle.std.specs.Prelude.{IsTrue}
use Rattle.cal_format.specs.Lenient.{are_leniently_apart}
use Rattle.cal_format.specs.Variants.{HasVariants, is_white}
use Rattle.cal_format.specs.declared.item.Item.TheVariants.{Literal}
use Rattle.caldate_answers.specs.VariantFronts.{CutsAt}
use Rattle.caldate_answers.proofs.Solid.{front-solid}
use Rattle.caldate_answers.proofs.VariantFronts.{Bounds, more-bound, others, rest-whole, whole, zero-bound}
use Rattle.caldate_answers.proofs.scan.variant_bound.+variant_bound.Goals as goal

pub returns-in-Some-eq0-clause-front : goal.returns-in-Some-eq0-clause-front
returns-in-Some-eq0-clause-front t c = λ numbers n more fits h.
    let items = c.args.items.now in
    let bytes = c.args.bytes.now in
    let first = get_or items 0 (Literal 0) in
    let e = whole items (Literal 0) c.in-len1-up.len_at_least in
    let apart = subst (λ l. IsTrue (are_leniently_apart l)) e c.requires.apart in
    let zero : c.in-Some-eq0.field-0 ≡ 0 = (let test = c.in-Some-eq0.field-0-test in grind (arith, nat_tests)) in
    let cut = subst (CutsAt c.args.after first bytes) zero c.in-Some-eq0.ensures.cuts in
    zero-bound c.args.after first (others items) bytes apart cut numbers n more fits (subst (λ l. HasVariants c.args.after l numbers (take n bytes ++ more)) e h)

pub returns-in-Some-clause-front : goal.returns-in-Some-clause-front
returns-in-Some-clause-front t c = λ numbers n more fits h.
    let items = c.args.items.now in
    let bytes = c.args.bytes.now in
    let count = c.in-Some.count in
    let first = get_or items 0 (Literal 0) in
    let e = whole items (Literal 0) c.in-len1-up.len_at_least in
    let apart = subst (λ l. IsTrue (are_leniently_apart l)) e c.requires.apart in
    let bound : Bounds c.is_white.result (others items) (drop count bytes) c.variant_bound.result =
    subst (λ l. Bounds c.is_white.result (others items) l c.variant_bound.result) (rest-whole bytes count) c.variant_bound.ensures.front in
    let bound : Bounds (is_white first) (others items) (drop count bytes) c.variant_bound.result =
    subst (λ w. Bounds w (others items) (drop count bytes) c.variant_bound.result) c.is_white.ensures bound in
    more-bound c.args.after first (others items) bytes count c.variant_bound.result apart c.in-Some.ensures.cuts bound numbers n more fits
    (subst (λ l. HasVariants c.args.after l numbers (take n bytes ++ more)) e h)

pub returns-in-None-clause-front : goal.returns-in-None-clause-front
returns-in-None-clause-front t c = λ numbers n more fits h.
    c.front_with.ensures.longest n fits (front-solid c.args.after c.args.items.now numbers (take n c.args.bytes.now) more h)

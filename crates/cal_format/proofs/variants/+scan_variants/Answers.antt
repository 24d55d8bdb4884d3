use Rattle.std.proofs.Common.{◌+◌, ◌∷◌, ◌∙◌, drop, arith, sym, subst}
use Rattle.cal_format.specs.Variants.{is_white, HasVariants}
use Rattle.cal_format.proofs.Apart.{first_of, others_of}
use Rattle.cal_format.proofs.Forms.{mapped}
use Rattle.cal_format.proofs.FormNumbers.{noted}
use Rattle.cal_format.proofs.Outcomes.{same-value, no-value}
use Rattle.cal_format.proofs.VariantScans.{first-parts, first-variant, empty-variants, end-some, drop-all}
use Rattle.cal_format.proofs.variants.+scan_variants.Goals as goal

pub returns-in_err-numbers-in-len1-up-clause-every : goal.returns-in_err-numbers-in-len1-up-clause-every
returns-in_err-numbers-in-len1-up-clause-every t c ns apart h =
    let p = first-parts c.args.after c.args.items.now ns c.args.scanner.now.rest.now c.in-len1-up.len_at_least apart h in
    absurd (no-value p.number (c.in_err-numbers-in-len1-up.ensures.every p.number p.front p.rest p.variant p.ended p.text_is).0)

pub returns-in-empty-clause-every : goal.returns-in-empty-clause-every
returns-in-empty-clause-every t c ns apart h =
    let none = empty-variants c.args.after c.args.items.now ns c.args.scanner.now.rest.now c.in-empty.len_below h in
    (end-some _ _ _ none.1 c.end.ensures.scans, drop-all c.args.at c.args.numbers.now (omega (arith, c.requires)) ∙ sym none.0)

pub returns-in_ok-numbers-in-len1-up-clause-value : goal.returns-in_ok-numbers-in-len1-up-clause-value
returns-in_ok-numbers-in-len1-up-clause-value t c =
    let items = c.args.items.now in
    let new = c.scan_variants.new.numbers in
    let mid = c.scan_variant.new.scanner.rest.now in
    let next = noted c.args.at _ c.args.numbers.now new (omega arith) c.scan_variants.ensures.kept in
    mapped (λ _. HasVariants c.is_white.result (others_of items) (drop (c.args.at + 1) new) mid) (λ _. HasVariants c.args.after items (drop c.args.at new) c.args.scanner.now.rest.now) _
    (λ u h. first-variant c.args.after items _ _ _ _ mid c.in-len1-up.len_at_least c.in_ok-numbers-in-len1-up.ensures.value (subst (λ w. HasVariants w (others_of items) (drop (c.args.at + 1) new) mid) c.is_white.ensures h) next.1) c.scan_variants.ensures.value

pub returns-in_ok-numbers-in-len1-up-clause-every : goal.returns-in_ok-numbers-in-len1-up-clause-every
returns-in_ok-numbers-in-len1-up-clause-every t c ns apart h =
    let items = c.args.items.now in
    let mid = c.scan_variant.new.scanner.rest.now in
    let p = first-parts c.args.after items ns c.args.scanner.now.rest.now c.in-len1-up.len_at_least apart h in
    let first = c.in_ok-numbers-in-len1-up.ensures.every p.number p.front p.rest p.variant p.ended p.text_is in
    let next = noted c.args.at _ c.args.numbers.now c.scan_variants.new.numbers (omega arith) c.scan_variants.ensures.kept in
    let others = subst (λ w. HasVariants w (others_of items) p.numbers mid) (sym c.is_white.ensures) (subst (HasVariants (is_white (first_of items)) (others_of items) p.numbers) (sym first.1) p.others) in
    let rest = c.scan_variants.ensures.every p.numbers p.apart others in
    let number = same-value _ _ first.0 in
    (rest.0, next.1 ∙ (λ i. number i ∷ rest.1 i) ∙ sym p.numbers_are)

pub returns-in_ok-numbers-in-len1-up-clause-kept : goal.returns-in_ok-numbers-in-len1-up-clause-kept
returns-in_ok-numbers-in-len1-up-clause-kept t c = (noted c.args.at _ c.args.numbers.now c.scan_variants.new.numbers (omega arith) c.scan_variants.ensures.kept).0

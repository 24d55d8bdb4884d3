use Rattle.std.proofs.Common.{ap, sym, subst, arith, ◌∙◌}
use Rattle.std.specs.Prelude.{IsTrue}
use Rattle.cal_format.specs.Form.{numbered_name}
use Rattle.cal_format.specs.Variants.{is_name, letters}
use Rattle.cal_format.proofs.Outcomes.{no-value}
use Rattle.cal_format.proofs.Variant.{variant-letters}
use Rattle.cal_format.proofs.VariantScans.{letters-are, head-is, tail-is, name-range}
use Rattle.cal_format.proofs.letters.scan_any_name.Goals as goal

pub returns-in_err-number-clause-every : goal.returns-in_err-number-clause-every
returns-in_err-number-clause-every c n front rest fit is low high e =
    let old = c.args.scanner.now.rest.now in
    let long = c.letters-count.ensures.value ∙ ap letters e ∙ letters-are front rest (variant-letters c.args.name n front is).0 low high in
    let word = head-is c.letters-count.result old front rest long e in
    absurd (no-value n (c.in_err-number.ensures.every n (omega (arith, c.most.ensures, (name-range c.args.name n fit).1)) fit (subst (λ l. IsTrue (is_name (numbered_name c.args.name n) l)) (sym word) is)))

pub returns-clause-every : goal.returns-clause-every
returns-clause-every c n front rest fit is low high e =
    let old = c.args.scanner.now.rest.now in
    let long = c.letters-count.ensures.value ∙ ap letters e ∙ letters-are front rest (variant-letters c.args.name n front is).0 low high in
    let word = head-is c.letters-count.result old front rest long e in
    (c.in_ok-number.ensures.every n (omega (arith, c.most.ensures, (name-range c.args.name n fit).1)) fit (subst (λ l. IsTrue (is_name (numbered_name c.args.name n) l)) (sym word) is), tail-is c.letters-count.result old front rest long e)

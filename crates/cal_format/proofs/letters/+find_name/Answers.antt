use Rattle.std.proofs.Common.{ap, arith, subst}
use Rattle.std.specs.Prelude.{IsTrue, Some}
use Rattle.cal_format.specs.Variants.{is_name}
use Rattle.cal_format.proofs.VariantScans.{one-name, name-number}
use Rattle.cal_format.proofs.letters.+find_name.Goals as goal

pub returns-then-is_name-clause-every : goal.returns-then-is_name-clause-every
returns-then-is_name-clause-every t c n low fit is =
    let own = subst (λ l. IsTrue (is_name l c.args.word.now)) c.text.ensures (subst IsTrue c.is_name.ensures c.if-is_name.true) in
    ap (λ k. Some k) (one-name c.args.name c.args.number n c.args.word.now (name-number c.args.name c.args.number (omega (arith, c.if-number-least.false, c.least.ensures)) (omega (arith, c.requires))) fit own is)

use Rattle.std.proofs.Common.{◌∙◌, arith, refl, ap, sym, subst, take}
use Rattle.std.specs.Prelude.{IsTrue}
use Rattle.cal_format.specs.Description.{spaces}
use Rattle.cal_format.specs.Variants.{all_spaces}
use Rattle.cal_format.proofs.VariantScans.{spaces-are, spaces-all, parted, front-long, tail-is}
use Rattle.cal_format.proofs.variants.scan_white.Goals as goal

pub returns-then-count-eq0-clause-every : goal.returns-then-count-eq0-clause-every
returns-then-count-eq0-clause-every c front rest e run low high text =
    absurd (omega (arith, c.if-count-eq0.true, c.spaces-count.ensures.value, ap spaces text, spaces-are front rest run.all low high, run.some))

pub returns-clause-value : goal.returns-clause-value
returns-clause-value c e =
    let old = c.args.scanner.now.rest.now in
    let count = c.spaces-count.result in (
      refl,
      record {
        front = take count old;
        is = record {
          some = omega (arith, front-long count old c.spaces-count.ensures.max, c.if-count-eq0.false);
          all = subst (λ k. IsTrue (all_spaces (take k old))) (sym c.spaces-count.ensures.value) (spaces-all old);
        };
        bytes_are = parted count old c.spaces-count.ensures.max;
      },
    )

pub returns-clause-every : goal.returns-clause-every
returns-clause-every c front rest e run low high text =
    (refl, tail-is c.spaces-count.result c.args.scanner.now.rest.now front rest (c.spaces-count.ensures.value ∙ ap spaces text ∙ spaces-are front rest run.all low high) text)

use Rattle.std.proofs.Common.{◌≡◌, ◌∙◌, ◌-ℤ◌, arith, sym, to_z, of_z, w64}
use Rattle.std.proofs.lemmas.Bool.{false≢true}
use Rattle.std.proofs.lemmas.Int.{ints}
use Rattle.std.specs.Prelude.{◌+ℤ◌, ◌≤ℤ◌, pos}
use Rattle.cal_zone.proofs.Spans.{single_in}
use Rattle.cal_zone.proofs.span.Span.single.Goals.{else-contains-via-then-contains+else-contains-2, else-contains-via-else-contains}
use Rattle.cal_zone.proofs.span.Span.single.Goals as goal

pub returns-then-contains-2 : goal.returns-then-contains-2
returns-then-contains-2 c =
    let e = to_z w64 (of_z w64 (to_z w64 (of_z w64 c.args.reading) -ℤ to_z w64 (of_z w64 c.from.result))) in
    let is : e ≡ (c.args.reading -ℤ c.args.self.offset) = omega (arith, ints, c.from.ensures) in
    let before = (c.contains.ensures.0 c.if-contains.true).0 in
    let after = (c.contains-then-contains.ensures.0 c.if-contains-2.true).1 in
    let low : c.args.self.first ≤ℤ (e -ℤ pos 187_198) = omega (arith, ints, before, is) in
    let high : (e +ℤ pos 187_198) ≤ℤ c.args.self.last = omega (arith, ints, after, is) in
    record {
      value = ((omega (arith, ints, low, is), omega (arith, ints, high, is)), is);
      only = λ zone order span. single_in zone order c.args.self span c.args.reading e is low high;
    }

pub returns-else-contains-clause-value : goal.returns-else-contains-clause-value
returns-else-contains-clause-value c = λ around.
    let early = around.0 in
    let late = around.1 in
    elim c.else-contains.branch [
      | else-contains-via-then-contains+else-contains-2 w ↦
          absurd (false≢true (sym w.if-contains-2.false ∙ w.contains-then-contains.ensures.1 (omega (arith, ints, c.from.ensures), omega (arith, ints, c.from.ensures))))
      | else-contains-via-else-contains w ↦ absurd (false≢true (sym w.if-contains.false ∙ c.contains.ensures.1 (omega (arith, ints, c.from.ensures), omega (arith, ints, c.from.ensures))))
    ]

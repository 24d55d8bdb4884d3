use Rattle.std.proofs.Common.{arith, pos, to_z, w32, ◌≡◌}
use Rattle.std.proofs.lemmas.Int.{ints}
use Rattle.cal_zoned.specs.Steps.{zoned_series}
use Rattle.cal_zoned.proofs.NextItems.{one_result}
use Rattle.cal_zoned.proofs.laws.one_next_result.Goals as goal

pub returns-then-next-lt-END : goal.returns-then-next-lt-END
returns-then-next-lt-END c = λ a b s t h k.
    let n : to_z w32 c.args.next ≡ pos c.args.next = omega (arith, ints) in
    let one = rw n at c.one_nth_period_later.ensures in
    one_result (zoned_series c.args.start.now c.args.period c.args.policy c.args.next) (λ less x y p q. one c.args.policy x y p q) a b s t h k

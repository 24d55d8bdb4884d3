use Rattle.std.proofs.Common.{◌/◌, ◌%◌, ◌*◌, ◌++◌, ◌∷◌, [], append_assoc, length, ap, sym, ◌∙◌, arith}
use Rattle.std.proofs.lemmas.List.{length-append}
use Rattle.cal_units.specs.Digits.{decimals, digit, two_digits}
use Rattle.cal_units.proofs.Decimals.{decimals_of, decimals-ascii, decimals-few, two-decimals, two-more, digit-more, none-more}
use Rattle.cal_units.proofs.text.ShortText.push_decimals.Goals as goal

pub push_two_digits-requires-clause-room : goal.push_two_digits-requires-clause-room
push_two_digits-requires-clause-room c =
    let l = c.loop-others in
    omega (arith, c.requires.room, (two-more c.args.nanoseconds l.others c.args.self.now l.self l.invariant.below l.invariant.none c.loop-others-test.true l.invariant.all).0)

pub loop-others-smaller : goal.loop-others-smaller
loop-others-smaller c =
    let l = c.loop-others in
    (two-more c.args.nanoseconds l.others c.args.self.now l.self l.invariant.below l.invariant.none c.loop-others-test.true l.invariant.all).1

pub loop-others-preserved : goal.loop-others-preserved
loop-others-preserved c =
    let l = c.loop-others in
    let rest = decimals_of (l.others % 10000000 * 100) in
    record {
      below = omega arith;
      none = λ e. absurd (omega (arith, c.loop-others-test.true, l.invariant.none e));
      all = ap (λ t. t ++ rest) c.push_two_digits.ensures.appended ∙ append_assoc l.self (two_digits (l.others / 10000000)) rest
          ∙ ap (λ ds. l.self ++ ds) (sym (two-decimals l.others c.loop-others-test.true)) ∙ l.invariant.all;
    }

-- The last digit.
pub push_digit-requires-clause-room : goal.push_digit-requires-clause-room
push_digit-requires-clause-room c =
    let l = c.loop-others in
    let whole = digit-more c.args.nanoseconds l.others c.args.self.now l.self (omega (arith, c.loop-others-test.false)) l.invariant.none l.invariant.all c.then-others-gt0.either in
    omega (arith, ap length whole, length-append l.self (digit (l.others / 100000000) ∷ []), length-append c.args.self.now (decimals c.args.nanoseconds), c.requires.room)

pub returns-then-others-gt0-clause-appended : goal.returns-then-others-gt0-clause-appended
returns-then-others-gt0-clause-appended c =
    let l = c.loop-others in
    c.push_digit.ensures.appended
    ∙ digit-more c.args.nanoseconds l.others c.args.self.now l.self (omega (arith, c.loop-others-test.false)) l.invariant.none l.invariant.all c.then-others-gt0.either

pub returns-then-others-gt0-clause-length : goal.returns-then-others-gt0-clause-length
returns-then-others-gt0-clause-length c =
    omega (arith, ap length (returns-then-others-gt0-clause-appended c), length-append c.args.self.now (decimals c.args.nanoseconds))

pub returns-then-others-gt0-clause-ascii : goal.returns-then-others-gt0-clause-ascii
returns-then-others-gt0-clause-ascii c = decimals-ascii c.args.nanoseconds c.requires.range

pub returns-then-others-gt0-clause-max_length : goal.returns-then-others-gt0-clause-max_length
returns-then-others-gt0-clause-max_length c =
    omega (arith, ap length (returns-then-others-gt0-clause-appended c), length-append c.args.self.now (decimals c.args.nanoseconds), decimals-few c.args.nanoseconds)

pub returns-else-nanoseconds-eq0-clause-appended : goal.returns-else-nanoseconds-eq0-clause-appended
returns-else-nanoseconds-eq0-clause-appended c =
    let l = c.loop-others in
    none-more c.args.nanoseconds l.others c.args.self.now l.self l.invariant.all (omega (arith, c.if-others-gt0.false)) c.if-nanoseconds-eq0.false

pub returns-else-nanoseconds-eq0-clause-length : goal.returns-else-nanoseconds-eq0-clause-length
returns-else-nanoseconds-eq0-clause-length c =
    omega (arith, ap length (returns-else-nanoseconds-eq0-clause-appended c), length-append c.args.self.now (decimals c.args.nanoseconds))

pub returns-else-nanoseconds-eq0-clause-ascii : goal.returns-else-nanoseconds-eq0-clause-ascii
returns-else-nanoseconds-eq0-clause-ascii c = decimals-ascii c.args.nanoseconds c.requires.range

pub returns-else-nanoseconds-eq0-clause-max_length : goal.returns-else-nanoseconds-eq0-clause-max_length
returns-else-nanoseconds-eq0-clause-max_length c =
    omega (arith, ap length (returns-else-nanoseconds-eq0-clause-appended c), length-append c.args.self.now (decimals c.args.nanoseconds), decimals-few c.args.nanoseconds)

use Rattle.std.proofs.Common.{true, false, arith}
use Rattle.cal_rounding.specs.declared.rounding_mode.RoundingMode.TheVariants.{Floor, Ceil, Trunc, HalfCeil, HalfEven}
use Rattle.cal_rounding.proofs.Multiples as m
use Rattle.cal_rounding.proofs.magnitude.is_away_from_zero.Goals as goal

pub returns-then-is_negative-clause-away : goal.returns-then-is_negative-clause-away
returns-then-is_negative-clause-away c = λ h. m.known _ Floor _ true _ _ _ c.in-Floor.is c.if-is_negative.true (m.floor_away _ _ _ c.requires (m.is_less _ _ h))

pub returns-then-is_negative-clause-toward : goal.returns-then-is_negative-clause-toward
returns-then-is_negative-clause-toward c = λ h. m.known _ Floor _ true _ _ _ c.in-Floor.is c.if-is_negative.true (m.floor_stays _ _ _ c.requires (m.not_less _ _ h))

pub returns-else-is_negative-clause-toward : goal.returns-else-is_negative-clause-toward
returns-else-is_negative-clause-toward c = λ h. m.known _ Floor _ false _ _ _ c.in-Floor.is c.if-is_negative.false (m.floor_toward _ _ _ c.requires)

pub returns-then-not-is_negative-clause-away : goal.returns-then-not-is_negative-clause-away
returns-then-not-is_negative-clause-away c = λ h. m.known _ Ceil _ false _ _ _ c.in-Ceil.is c.if-not-is_negative.true (m.ceil_away _ _ _ c.requires (m.is_less _ _ h))

pub returns-then-not-is_negative-clause-toward : goal.returns-then-not-is_negative-clause-toward
returns-then-not-is_negative-clause-toward c = λ h. m.known _ Ceil _ false _ _ _ c.in-Ceil.is c.if-not-is_negative.true (m.ceil_stays _ _ _ c.requires (m.not_less _ _ h))

pub returns-else-not-is_negative-clause-toward : goal.returns-else-not-is_negative-clause-toward
returns-else-not-is_negative-clause-toward c = λ h. m.known _ Ceil _ true _ _ _ c.in-Ceil.is c.if-not-is_negative.false (m.ceil_toward _ _ _ c.requires)

pub returns-in-Trunc-clause-toward : goal.returns-in-Trunc-clause-toward
returns-in-Trunc-clause-toward c = λ h. m.known_mode _ Trunc _ _ _ _ c.in-Trunc.is (m.trunc_toward _ _ _ _ c.requires)

pub returns-in-HalfCeil-clause-away : goal.returns-in-HalfCeil-clause-away
returns-in-HalfCeil-clause-away c = λ h. m.known _ HalfCeil _ true _ _ _ c.in-HalfCeil.is c.if-is_negative-2.true (m.half_ceil_away_below _ _ _ c.requires (m.is_less _ _ h))

pub returns-in-HalfCeil-clause-toward : goal.returns-in-HalfCeil-clause-toward
returns-in-HalfCeil-clause-toward c = λ h. m.known _ HalfCeil _ true _ _ _ c.in-HalfCeil.is c.if-is_negative-2.true (m.half_ceil_toward_below _ _ _ c.requires (m.not_less _ _ h))

pub returns-in-HalfCeil-2-clause-away : goal.returns-in-HalfCeil-2-clause-away
returns-in-HalfCeil-2-clause-away c = λ h. m.known _ HalfCeil _ false _ _ _ c.in-HalfCeil-2.is c.if-is_negative-2.false (m.half_ceil_away _ _ _ c.requires (m.is_most _ _ h))

pub returns-in-HalfCeil-2-clause-toward : goal.returns-in-HalfCeil-2-clause-toward
returns-in-HalfCeil-2-clause-toward c = λ h. m.known _ HalfCeil _ false _ _ _ c.in-HalfCeil-2.is c.if-is_negative-2.false (m.half_ceil_toward _ _ _ c.requires (m.not_most _ _ h))

pub returns-then-unit-past-clause-away : goal.returns-then-unit-past-clause-away
returns-then-unit-past-clause-away c = λ h. m.known_mode _ HalfEven _ _ _ _ c.in-HalfEven.is
    (let less = m.is_less _ _ h in m.half_even_away _ _ _ _ c.requires (omega (arith, less)) (λ same. absurd (omega (arith, less, same))))

pub returns-then-unit-past-2-clause-away : goal.returns-then-unit-past-2-clause-away
returns-then-unit-past-2-clause-away c = λ h. m.known_mode _ HalfEven _ _ _ _ c.in-HalfEven.is
    (let same = c.if-unit-past-2.true in m.half_even_away _ _ _ _ c.requires (omega (arith, same)) (λ _. m.is_odd _ h))

pub returns-then-unit-past-2-clause-toward : goal.returns-then-unit-past-2-clause-toward
returns-then-unit-past-2-clause-toward c = λ h. m.known_mode _ HalfEven _ _ _ _ c.in-HalfEven.is
    (let same = c.if-unit-past-2.true in m.half_even_toward _ _ _ _ c.requires (omega (arith, same)) (λ _. m.not_odd _ h))

pub returns-else-unit-past-2-clause-toward : goal.returns-else-unit-past-2-clause-toward
returns-else-unit-past-2-clause-toward c = λ h. m.known_mode _ HalfEven _ _ _ _ c.in-HalfEven.is
    (let most = c.if-unit-past.false in m.half_even_toward _ _ _ _ c.requires (omega (arith, most)) (λ same. absurd (c.if-unit-past-2.false same)))

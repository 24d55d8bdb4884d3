use Rattle.std.proofs.Common.{arith, subst}
use Rattle.cal_text.specs.AnyForm.{HasAnyForm}
use Rattle.cal_text.specs.Position.{HasSome, IsErrorAtStop}
use Rattle.cal_text.specs.Rfc3339Form.{HasMomentForm}
use Rattle.cal_text.proofs.Shapes.{date-shape}
use Rattle.cal_text.proofs.AnyPositions.{further, ended}
use Rattle.cal_text.proofs.Positions.{named}
use Rattle.cal_text.proofs.any.dates.furthest_error.Goals as goal

pub returns-in-Ok-clause-position : goal.returns-in-Ok-clause-position
returns-in-Ok-clause-position c = absurd ((date-shape c.args.text.now _ c.in-Ok.ensures.value).separator c.requires.separator)

pub unexpected-requires : goal.unexpected-requires
unexpected-requires c =
    let moment = subst (IsErrorAtStop (HasSome HasMomentForm) c.args.text.now) c.in-UnexpectedByte.is c.requires.position in
    omega (arith, c.max.ensures, moment.1, c.in-Err.ensures.position.within)

pub returns-in-Err-clause-position : goal.returns-in-Err-clause-position
returns-in-Err-clause-position c =
    let text = c.args.text.now in
    let moment = subst (IsErrorAtStop (HasSome HasMomentForm) text) c.in-UnexpectedByte.is c.requires.position in
    named HasAnyForm text c.max.result c.unexpected.result
    (further text c.in-UnexpectedByte.position c.in-Err.date c.max.result c.requires.first moment.0 c.in-Err.ensures.position c.max.ensures) c.unexpected.ensures.byte c.unexpected.ensures.end

pub returns-in-UnexpectedEnd-clause-position : goal.returns-in-UnexpectedEnd-clause-position
returns-in-UnexpectedEnd-clause-position c =
    let text = c.args.text.now in
    ended text _ (subst (IsErrorAtStop (HasSome HasMomentForm) text) c.in-UnexpectedEnd.is c.requires.position)

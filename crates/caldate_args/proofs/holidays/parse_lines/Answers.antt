use Rattle.std.proofs.Common.{arith, length-take}
use Rattle.caldate_args.proofs.HolidayLines.{all_lines, first_error, none_so_far, one_more_line}
use Rattle.caldate_args.proofs.holidays.parse_lines.Goals as goal

pub loop-rest-init : goal.loop-rest-init
loop-rest-init c = record { most = omega arith; numbered = omega arith; so_far = none_so_far c.args.bytes.now }

pub loop-rest-preserved : goal.loop-rest-preserved
loop-rest-preserved c =
    let at = c.loop-rest.invariant in record {
      most = c.in-Ok.ensures.most;
      numbered = omega (arith, at.numbered, c.cut_line.ensures.shorter);
      so_far = one_more_line _ _ _ _ _ _ _ c.cut_line.ensures.lines c.in-Ok.ensures.days at.so_far;
    }

pub returns-in-Err-clause-error : goal.returns-in-Err-clause-error
returns-in-Err-clause-error c =
    let at = c.loop-rest.invariant in
    first_error c.args.bytes.now _ c.cut_line.result.1.now c.cut_line.result.0.now _ _ _ c.cut_line.ensures.lines (omega (arith, at.most, length-take c.loop-rest.count c.loop-rest.days)) c.in-Err.ensures.error at.so_far

pub returns-clause-days : goal.returns-clause-days
returns-clause-days c = all_lines _ _ _ _ c.loop-rest-test.false c.loop-rest.invariant.so_far

use Rattle.std.proofs.Common.{inl, inr, subst}
use Rattle.cal_text.specs.Position.{IsErrorAtStop}
use Rattle.caldate_answers.specs.Readings.{HasFormIn}
use Rattle.caldate_answers.specs.Scans.{Bounds}
use Rattle.caldate_answers.proofs.TextBounds.{bounds_at}
use Rattle.caldate_answers.proofs.scan.bound.bound_by_form.Goals as goal

pub returns-in-UnexpectedByte : goal.returns-in-UnexpectedByte
returns-in-UnexpectedByte c =
    let form = HasFormIn c.args.reading in
    let bytes = c.args.bytes.now in
    let at = c.in-UnexpectedByte.at in
    elim c.in-UnexpectedByte.is as (λ _. Bounds form bytes at) [
      | inl byte ↦ bounds_at form bytes at (subst (IsErrorAtStop form bytes) byte c.in-Err.ensures.position).0
      | inr end ↦ bounds_at form bytes at (subst (IsErrorAtStop form bytes) end c.in-Err.ensures.position).0
    ]

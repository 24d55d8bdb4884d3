use Rattle.std.proofs.Common.{◌∙◌, ◌++◌, codes, decimal, ap, sym, append_assoc}
use Rattle.caldate_lines.specs.Reasons.{reason}
use Rattle.caldate_lines.proofs.no_answer.push_reason.Goals as goal

pub returns-in-Unreadable-clause-text : goal.returns-in-Unreadable-clause-text
returns-in-Unreadable-clause-text c =
    let position = c.in-Unreadable.position in
    c.push_number.ensures.appended ∙ ap (λ front. front ++ decimal position) c.push-in-Unreadable.ensures.appended
    ∙ append_assoc c.args.buffer.now (codes "unreadable at ") (decimal position) ∙ ap (λ why. c.args.buffer.now ++ reason why) (sym c.in-Unreadable.is)

use Rattle.std.proofs.Common.{◌++◌, ◌∷◌, [], ◌∙◌, ap, append_assoc}
use Rattle.caldate_lines.proofs.Outputs.{appended}
use Rattle.caldate_lines.proofs.output.Output.push_line.Goals as goal

pub returns-clause-given : goal.returns-clause-given
returns-clause-given g c = λ given start outputs.
    let old = c.make_room.new.self in
    appended g.W.Sink.contents g.W.Sink.write_gives given (c.args.text.now ++ 10 ∷ []) start _ old c.push-2.new.self
    (c.push-2.ensures.appended ∙ ap (λ b. b ++ 10 ∷ []) c.push.ensures.appended ∙ append_assoc old.buffer c.args.text.now (10 ∷ []))
    (c.make_room.ensures.passes_on given start outputs)

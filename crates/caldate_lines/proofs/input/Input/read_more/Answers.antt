use Rattle.std.proofs.Common.{◌∙◌, ◌-◌, ◌≤◌, ◌++◌, length, rules, ap}
use Rattle.caldate_lines.proofs.Known.{given_more}
use Rattle.caldate_lines.proofs.input.Input.read_more.Goals as goal

pub returns-in-Ok-clause-given : goal.returns-in-Ok-clause-given
returns-in-Ok-clause-given g c =
    let within : c.self.inside.filled ≤ length c.self.inside.bytes = search rules in
    let read = given_more _ _ c.self.inside.filled (65536 - c.self.inside.filled) c.in-Ok.count c.self.inside.bytes c.read_some.new.buffer within c.in-Ok.ensures.bound.0 c.in-Ok.ensures.bytes.0 in
    (read.0, read.1, read.2 ∙ ap (λ old. old ++ read.0) c.self.view_is)

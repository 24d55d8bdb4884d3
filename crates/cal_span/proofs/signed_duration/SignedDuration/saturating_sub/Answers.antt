use Rattle.std.proofs.Common.{◌-ℤ◌, sym, ◌∙◌}
use Rattle.cal_span.proofs.Clamp.{clamp-inside}
use Rattle.cal_span.proofs.signed_duration.SignedDuration.saturating_sub.Goals as goal

pub returns-in-Some : goal.returns-in-Some
returns-in-Some c =
    let exact = c.in-Some.ensures in
    exact.1 ∙ sym (clamp-inside (c.args.self -ℤ c.args.rhs) exact.0)

use Rattle.std.specs.Io.KnownBytes.{Keeps}
use Rattle.caldate_args.specs.Files.{Steps, joined_rest}
use Rattle.caldate_args.proofs.files.JoinedSource.read.Given as goal

-- nothing known was read, and the steps from here on complete the steps of the read
abbrev pub invariant-loop : goal.invariant-loop
invariant-loop g l =
    Keeps (joined_rest l.fn.self.is_unfinished (g.T.Texts.rest l.fn.self.texts) (g.T.Texts.later l.fn.self.texts))
    (joined_rest l.self.is_unfinished (g.T.Texts.rest l.self.texts) (g.T.Texts.later l.self.texts))
    × ((end : _) → Steps g.T.Texts.leads l.self.texts end → Steps g.T.Texts.leads l.fn.self.texts end)

use Rattle.caldate_args.specs.Words.{bytes_left}
use Rattle.caldate_args.proofs.args.options.language_in.Given as goal

abbrev pub decreases-loop-left : goal.decreases-loop-left
decreases-loop-left l = bytes_left l.left

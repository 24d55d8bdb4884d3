use Rattle.std.proofs.Common.{◌≡◌, ◌+◌, length}
use Rattle.caldate_args.proofs.files.named_files.push_file_name.Given as goal

-- a byte is shown for each before the position
abbrev pub invariant-loop-i : goal.invariant-loop-i
invariant-loop-i l = length l.line ≡ length l.fn.line + l.i

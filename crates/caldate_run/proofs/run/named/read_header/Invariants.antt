use Rattle.std.proofs.Common.{◌≤◌, length, Bool, Some}
use Rattle.std.specs.Io.KnownBytes.{Consumes}
use Rattle.caldate_lines.specs.Calls.{Reads, most_reads}
use Rattle.caldate_lines.specs.RunStates.{NoEnd}
use Rattle.caldate_lines.specs.declared.quoting.Quoting.TheVariants.{Ready}
use Rattle.caldate_run.proofs.run.named.read_header.Given as goal

-- the reader gave the bytes, in which no line ends, and the remaining reads complete its reads
abbrev pub invariant-loop-reads : goal.invariant-loop-reads
invariant-loop-reads g l =
    Consumes (g.R.Source.remaining l.initial.reader) (g.R.Source.remaining l.reader) l.input × NoEnd (Some l.field) Ready l.input × (length l.input ≤ 4097)
    × ((failed : Bool) (last : _) → Reads g.R.Source.read_gives l.reads l.reader failed last
    → Reads g.R.Source.read_gives most_reads l.initial.reader failed last)

abbrev pub decreases-loop-reads : goal.decreases-loop-reads
decreases-loop-reads g l = l.reads

-- A format prints a short text.
use Rattle.cal_format.proofs.Lengths.{text-short}

pub ruleset printable = (text-short)

use Rattle.cal_text.proofs.Stops.{unmatched_bytes-done_empty, unmatched_bytes-done_more}
use Rattle.cal_text.proofs.scanner.Scanner.end.Goals as goal

pub returns-in-empty-clause-scans : goal.returns-in-empty-clause-scans
returns-in-empty-clause-scans c = unmatched_bytes-done_empty _ c.in-empty.len_below

pub returns-in-len1-up-clause-scans : goal.returns-in-len1-up-clause-scans
returns-in-len1-up-clause-scans c = unmatched_bytes-done_more _ c.in-len1-up.len_at_least

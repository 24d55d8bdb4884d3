use Rattle.cal_format.proofs.Shapes.{letters-front}
use Rattle.cal_format.proofs.form_names.scan_period.Goals as goal

pub returns-then-is_pm-first-clause-scans : goal.returns-then-is_pm-first-clause-scans
returns-then-is_pm-first-clause-scans c f = letters-front c.args.am c.args.pm c.args.last f c.args.scanner.now.rest.now c.in-len2-up.len_at_least c.if-is_pm-first.true

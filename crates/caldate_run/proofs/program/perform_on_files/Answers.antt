use Rattle.std.proofs.Common.{refl}
use Rattle.caldate_run.proofs.Named.{named_weaker}
use Rattle.caldate_run.proofs.Reported.{fails_or_keeps, steps_read}
use Rattle.caldate_run.proofs.program.perform_on_files.Goals as goal

pub returns-clause-failed : goal.returns-clause-failed
returns-clause-failed g c =
    fails_or_keeps (λ files. files.has_failed) (λ files. files.errors) c.args.files.now.texts c.perform-ending.new.reader.texts
    (steps_read (λ reader. reader.texts) _ _ c.args.files.now c.perform-ending.new.reader _ c.perform-ending.ensures.reads.1)

pub returns-clause-status : goal.returns-clause-status
returns-clause-status g c = (
  c.perform-ending.result,
  refl,
  c.status.ensures,
  λ filter given. let lines = c.perform-ending.ensures.lines filter given in (lines.0, lines.1, lines.3, lines.4),
  λ filter field given. named_weaker filter field _ _ _ _ _ (λ numbered outcome h. (h.0, h.2, h.3)) (λ failed words h. (h.1, h.2, h.3)) (c.perform-ending.ensures.named filter field given),
  c.perform-ending.ensures.usage_error,
)

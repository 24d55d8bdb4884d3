use Rattle.std.proofs.Common.{subst, take}
use Rattle.std.specs.Prelude.{IsSomeAnd}
use Rattle.cal_text.specs.AnyForm.{HasAnyForm}
use Rattle.caldate_answers.specs.Spellings.{full_by}
use Rattle.caldate_answers.proofs.scan.bound.bound_by_spelling.Goals as goal

pub returns-in-Iso-clause-form : goal.returns-in-Iso-clause-form
returns-in-Iso-clause-form c = λ n fits h. c.bound_by_iso.ensures.form n fits (subst (λ s. IsSomeAnd (full_by s (take n c.args.bytes.now)) HasAnyForm) c.in-Iso.is h)

pub returns-in-Seconds-clause-form : goal.returns-in-Seconds-clause-form
returns-in-Seconds-clause-form c = λ n fits h. c.bound_by_seconds.ensures.form n fits (subst (λ s. IsSomeAnd (full_by s (take n c.args.bytes.now)) HasAnyForm) c.in-Seconds.is h)

use Rattle.std.proofs.Common.{inl, refl, subst}
use Rattle.caldate_answers.specs.Scans.{IsReadWith}
use Rattle.caldate_answers.proofs.answer.push_read.Goals as goal

pub push_found-requires-clause-read : goal.push_found-requires-clause-read
push_found-requires-clause-read c = subst (IsReadWith c.args.filter.now c.args.text.now) c.in-Ok.is c.requires.read

pub returns-in-Err-clause-answered : goal.returns-in-Err-clause-answered
returns-in-Err-clause-answered c = (refl, inl (subst (IsReadWith c.args.filter.now c.args.text.now) c.in-Err.is c.requires.read))

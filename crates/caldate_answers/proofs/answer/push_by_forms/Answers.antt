use Rattle.caldate_answers.proofs.Scans.{read_so}
use Rattle.caldate_answers.proofs.answer.push_by_forms.Goals as goal

pub push_read-requires-clause-read : goal.push_read-requires-clause-read
push_read-requires-clause-read c = read_so c.args.filter.now c.args.text.now c.read_with.result c.read_with.ensures.has c.read_with.ensures.error

use Rattle.std.proofs.Common.{subst, sym}
use Rattle.caldate_answers.specs.Readers.{IsReadIn}
use Rattle.caldate_answers.proofs.reading.value_format.ValueFormat.read.Goals as goal

pub returns-in-Dates : goal.returns-in-Dates
returns-in-Dates c = subst (λ f. IsReadIn c.args.offset f c.args.text.now c.read_date.result) (sym c.in-Dates.is) (c.read_date.ensures c.args.offset)

pub returns-in-Moments : goal.returns-in-Moments
returns-in-Moments c = subst (λ f. IsReadIn c.args.offset f c.args.text.now c.read_moment.result) (sym c.in-Moments.is) (c.read_moment.ensures c.args.offset)

pub returns-in-DateTimes : goal.returns-in-DateTimes
returns-in-DateTimes c = subst (λ f. IsReadIn c.args.offset f c.args.text.now c.read_date_time.result) (sym c.in-DateTimes.is) c.read_date_time.ensures

pub returns-in-Lenient : goal.returns-in-Lenient
returns-in-Lenient c = subst (λ f. IsReadIn c.args.offset f c.args.text.now c.read.result) (sym c.in-Lenient.is) c.read.ensures

pub returns-in-InLanguage : goal.returns-in-InLanguage
returns-in-InLanguage c = subst (λ f. IsReadIn c.args.offset f c.args.text.now c.read-in-InLanguage.result) (sym c.in-InLanguage.is) c.read-in-InLanguage.ensures

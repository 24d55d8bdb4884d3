use Rattle.std.proofs.Common.{◌+◌, ◌++◌, ap, sym, ◌∙◌, arith}
use Rattle.std.proofs.lemmas.Fmt.{decimal_digit}
use Rattle.cal_format.proofs.Forms.{power-some}
use Rattle.cal_format.proofs.form.scan_decimal.Goals as goal

pub returns-in-Some-clause-value : goal.returns-in-Some-clause-value
returns-in-Some-clause-value c = c.in-Some.ensures.value ∙ ap (λ ds. ds ++ c.byte.new.self.rest.now) (sym (decimal_digit 0 (omega arith)))

pub returns-in-Some-clause-range : goal.returns-in-Some-clause-range
returns-in-Some-clause-range c = power-some (c.args.more + 1)

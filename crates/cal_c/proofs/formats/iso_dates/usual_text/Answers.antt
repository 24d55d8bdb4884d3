use Rattle.std.proofs.Common.{◌+◌, sym, ◌∙◌, ap, arith, rules, w32, FitsSigned}
use Rattle.std.proofs.lemmas.Int.{to_z-of_z}
use Rattle.cal_time.specs.Digits.{two_digits}
use Rattle.cal_c.proofs.IsoDates.{usual-text}
use Rattle.cal_c.proofs.formats.iso_dates.usual_text.Goals as goal

pub returns-clause-value : goal.returns-clause-value
returns-clause-value c =
    let parts = c.month_index_and_day-index in
    let fits : FitsSigned w32 c.year.result = search rules in
    let year = simp to_z-of_z at c.in_ok-year.ensures in
    usual-text c.args.date c.in_ok-year.year (parts.result.0 + 1) parts.result.1
    c.two_digits.result c.two_digits-2.result c.two_digits-3.result c.two_digits-4.result
    (sym c.year.ensures.value ∙ year.0) year.1
    (sym parts.ensures.month) (omega (arith, parts.ensures.index)) (sym parts.ensures.day) (omega (arith, parts.ensures.max))
    c.two_digits.ensures c.two_digits-2.ensures
    (c.two_digits-3.ensures ∙ ap (λ n. two_digits (n + 1)) c.from.ensures) (c.two_digits-4.ensures ∙ ap two_digits c.from-2.ensures)

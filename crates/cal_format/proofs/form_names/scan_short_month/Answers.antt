use Rattle.std.proofs.Common.{◌-◌, take, drop, length, sym, ap, ◌∙◌}
use Rattle.std.specs.Prelude.{bytes_eq}
use Rattle.cal_text.specs.Shape.{unmatched_bytes}
use Rattle.cal_format.specs.Form.{MonthName}
use Rattle.std.specs.Prelude.{false}
use Rattle.cal_time.specs.Month.{month_of_index}
use Rattle.cal_format.proofs.EnglishNames.{front-month}
use Rattle.cal_format.proofs.Shapes.{short_month-each}
use Rattle.cal_format.proofs.form_names.scan_short_month.Goals as goal

pub returns-then-eq-clause-value : goal.returns-then-eq-clause-value
returns-then-eq-clause-value c =
    let old = c.args.scanner.now.rest.now in
    front-month c.in-Ok.month c.from-then-eq-2.result old (sym (c.from-then-eq-2.ensures ∙ c.from-then-eq.ensures)) c.in-len3-up.len_at_least
    (sym c.if-eq.true ∙ c.eq.ensures ∙ ap (λ l. bytes_eq (take 3 l) (take 3 old)) (c.as_bytes.ensures.value ∙ c.name.ensures.value))

pub returns-then-eq-clause-scans : goal.returns-then-eq-clause-scans
returns-then-eq-clause-scans c f =
    let old = c.args.scanner.now.rest.now in
    ap (unmatched_bytes (MonthName false f)) (returns-then-eq-clause-value c) ∙ short_month-each (month_of_index (c.from-then-eq-2.result - 1)) f (take (length old - 3) (drop 3 old))

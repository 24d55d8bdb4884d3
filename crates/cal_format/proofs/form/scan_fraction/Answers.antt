use Rattle.std.proofs.Common.{◌≡◌, ◌++◌, false}
use Rattle.cal_format.specs.Text.{fraction_text}
use Rattle.cal_format.specs.Form.{ParsesDecimals}
use Rattle.cal_format.proofs.Forms.{mapped}
use Rattle.cal_format.proofs.FormDecimals.{fraction-scanned}
use Rattle.cal_format.proofs.form.scan_fraction.Goals as goal

pub returns-in-Some-clause-value : goal.returns-in-Some-clause-value
returns-in-Some-clause-value c =
    mapped (ParsesDecimals _ _ false 8 100_000_000) (λ n. c.args.scanner.now.rest.now ≡ fraction_text n ++ c.scan_decimals.new.scanner.rest.now) _
    (λ n h. (fraction-scanned n _ _ _ c.in-Some.ensures.value h).1) c.scan_decimals.ensures.value

pub returns-in-Some-clause-range : goal.returns-in-Some-clause-range
returns-in-Some-clause-range c = mapped (ParsesDecimals _ _ false 8 100_000_000) _ _ (λ n h. (fraction-scanned n _ _ _ c.in-Some.ensures.value h).0) c.scan_decimals.ensures.value

use Rattle.std.proofs.Common.{◌≡◌, suc, length, subst}
use Rattle.cal_text.specs.Shape.{unmatched_bytes}
use Rattle.cal_format.specs.Form.{shape_of}
use Rattle.cal_format.proofs.Rejections.{is-stop}
use Rattle.cal_format.proofs.format.Format.first_mismatch.Goals as goal

pub overflow_sub-result : goal.overflow_sub-result
overflow_sub-result c = (is-stop c.items.result.now _ _ c.in-None.ensures).within

pub returns-in-None-clause-position : goal.returns-in-None-clause-position
returns-in-None-clause-position c =
    let stop = subst (λ l. unmatched_bytes (shape_of l) c.args.text.now ≡ suc (length c.scan_form.new.scanner.rest.now)) c.items.ensures.items c.in-None.ensures in
    (is-stop c.args.self.now _ _ stop).position

use Rattle.std.proofs.Common.{◌≡◌, suc, length, subst, arith}
use Rattle.cal_text.specs.Shape.{unmatched_bytes}
use Rattle.cal_format.specs.Form.{shape_of}
use Rattle.cal_format.proofs.Shapes.{has-form}
use Rattle.cal_format.proofs.format.Format.parse_numbers.Goals as goal

pub returns-in-None-clause-none : goal.returns-in-None-clause-none
returns-in-None-clause-none c numbers own =
    let stop = subst (λ l. unmatched_bytes (shape_of l) c.args.text.now ≡ suc (length c.scan_items.new.scanner.rest.now)) c.items-2.ensures.items c.in-None.ensures.scans in
    omega (arith, stop, has-form c.args.self.now numbers c.args.text.now own.0 own.1)

use Rattle.std.proofs.Common.{◌++◌, drop, ◌∙◌, arith}
use Rattle.std.proofs.lemmas.List.{length-take-le}
use Rattle.cal_format.specs.Laws.{iso_items}
use Rattle.cal_format.specs.Moment.{moment_of_date}
use Rattle.cal_c.specs.OnePass.{PrintsItems}
use Rattle.cal_c.proofs.IsoDates.{usual-printed, only-format}
use Rattle.cal_c.proofs.formats.iso_dates.print_date_at_once.Goals as goal

pub returns-in-Some-clause-value : goal.returns-in-Some-clause-value
returns-in-Some-clause-value c =
    let n = c.args.date in
    let old = c.args.buffer.now in
    let bytes = c.copy_from_slice.new.self in
    only-format iso_items c.args.format.now (PrintsItems 0 14 (moment_of_date n) old (bytes ++ drop 10 old) 0 10) (c.is_iso.ensures c.if-is_iso.true)
    (usual-printed n old (drop 10 old) bytes
    (omega (arith, c.copy_from_slice.ensures.len, length-take-le 10 old (omega (arith, c.if-buffer-ge-LENGTH.true)))) (c.copy_from_slice.ensures.after ∙ c.in-Some.ensures.value))

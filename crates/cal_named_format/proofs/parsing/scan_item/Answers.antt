use Rattle.cal_named_format.proofs.Named.{scanned-other, valued-other}
use Rattle.cal_named_format.proofs.parsing.scan_item.Goals as goal

pub returns-in_default : goal.returns-in_default
returns-in_default c =
    let old = c.args.scanner.now.rest.now in
    let new = c.scan.new.scanner.rest.now in
    record {
      scans = scanned-other c.args.names.now c.args.item c.in_default.not-Name old new c.scan.result c.scan.ensures.scans;
      value = valued-other c.args.names.now c.args.item c.in_default.not-Name old new c.scan.result c.scan.ensures.value;
      range = c.scan.ensures.range;
    }

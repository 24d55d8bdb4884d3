use Rattle.std.proofs.Common.{rules, refl, length, ◌+◌, ◌-◌, arith}
use Rattle.std.proofs.lemmas.Slice.{overwrites, drop-put_mid}
use Rattle.cal_named_format.proofs.printing.put.Goals as goal

pub returns : goal.returns
returns c =
    let end = c.args.at + length c.args.bytes.now in
    record {
      room = search rules;
      text = search (rules, overwrites);
      end = refl;
      after = drop-put_mid c.args.at (end - c.args.at) c.args.buffer.now c.copy_from_slice.new.self end (omega arith) (omega (arith, c.requires)) (search rules);
      before = tt;
    }

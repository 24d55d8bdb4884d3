use Rattle.std.proofs.Common.{rules}
use Rattle.cal_format.proofs.Apart.{first_of, others_of}
use Rattle.cal_format.proofs.Printing.{writes-all, first-text}
use Rattle.cal_named_format.specs.Named.{item_text_in, text_in}
use Rattle.cal_named_format.proofs.printing.+print.Goals as goal

pub returns-in_ok-next-in-len1-up : goal.returns-in_ok-next-in-len1-up
returns-in_ok-next-in-len1-up t c =
    let f = item_text_in c.args.names.now c.args.moment.now in
    writes-all (text_in c.args.names.now c.args.items.now c.args.moment.now) (f (first_of c.args.items.now)) (text_in c.args.names.now (others_of c.args.items.now) c.args.moment.now) c.args.at c.in_ok-next-in-len1-up.next
    c.args.buffer.now c.print_item.new.buffer c.print.new.buffer c.print.result (first-text f c.args.items.now c.in-len1-up.len_at_least) c.requires (search rules) c.in_ok-next-in-len1-up.ensures c.print.ensures

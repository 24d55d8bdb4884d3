use Rattle.std.proofs.Common.{◌∙◌, sym, take}
use Rattle.caldate_lines.proofs.Parts.{cut_there, no_separator, none_before}
use Rattle.caldate_lines.proofs.Quotes.{found_end, no_end, off_passes, unquoted_passes}
use Rattle.caldate_lines.proofs.lines.part_end.Goals as goal

pub returns-in_default : goal.returns-in_default
returns-in_default c =
    no_end c.args.end c.args.separator c.args.start c.args.quoting c.args.bytes.now
    (no_separator c.args.end c.args.bytes.now (sym c.index_of.ensures ∙ c.in_default.is))

pub returns-in-Off : goal.returns-in-Off
returns-in-Off c =
    let xs = c.args.bytes.now in
    let k = c.in-Some.at in
    let is = sym c.index_of.ensures ∙ c.in-Some.is in
    found_end c.args.end c.args.separator c.args.start c.args.quoting xs k (cut_there c.args.end xs k is)
    (off_passes c.args.end c.args.separator c.args.start c.args.quoting (take k xs) c.in-Off.is (none_before c.args.end xs k is))

pub returns-then-not-has_quote : goal.returns-then-not-has_quote
returns-then-not-has_quote c =
    let xs = c.args.bytes.now in
    let k = c.in-Some.at in
    let is = sym c.index_of.ensures ∙ c.in-Some.is in
    found_end c.args.end c.args.separator c.args.start c.args.quoting xs k (cut_there c.args.end xs k is)
    (unquoted_passes c.args.end c.args.separator c.args.start c.args.quoting (take k xs) (sym c.is_open.ensures ∙ c.if-not-is_open.true) (none_before c.args.end xs k is)
    (no_separator 34 (take k xs) (c.has_quote.ensures c.if-not-has_quote.true)))

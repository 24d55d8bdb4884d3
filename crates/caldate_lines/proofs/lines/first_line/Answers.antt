use Rattle.std.proofs.Common.{◌∙◌, sym}
use Rattle.std.proofs.lemmas.List.{take_rest}
use Rattle.caldate_lines.proofs.Parts.{first_ends}
use Rattle.caldate_lines.proofs.lines.first_line.Goals as goal

pub returns-clause-parts : goal.returns-clause-parts
returns-clause-parts c =
    let found = first_ends c.args.bytes.now c.in_ok-at.at (sym c.index_of.ensures ∙ c.in_ok-at.was) in
    rw take_rest (found.1, found.2)

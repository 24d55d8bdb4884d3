use Rattle.std.proofs.lemmas.Int.{to_z-of_z}
use Rattle.std.proofs.Common.{◌∙◌}
use Rattle.caltool.proofs.Numbers.{narrowed_u16, i64_of_fits}
use Rattle.caltool.proofs.number.parse_u16.Goals as goal

pub returns : goal.returns
returns c =
    let fits = i64_of_fits c.args.word.now c.in_ok-parse_i64.field-0 c.in_ok-parse_i64.ensures in
    c.ok.ensures.value
    ∙ narrowed_u16 c.args.word.now c.in_ok-parse_i64.field-0 c.try_from.result c.in_ok-parse_i64.ensures (simp to_z-of_z at c.try_from.ensures)

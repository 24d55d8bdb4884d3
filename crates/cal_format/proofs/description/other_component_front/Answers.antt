use Rattle.std.proofs.Common.{◌≡◌, length, ap, ◌∙◌, arith}
use Rattle.std.specs.Prelude.{◌==◌}
use borrow.Author.Tests.{eq-eqb}
use Rattle.cal_format.specs.Components.{date_components}
use Rattle.cal_format.specs.Description.{component_front}
use Rattle.cal_format.proofs.Choices.{first-choice}
use Rattle.cal_format.proofs.description.other_component_front.Goals as goal

pub returns-clause-used : goal.returns-clause-used
returns-clause-used c =
    let date = component_front date_components c.args.text.now in
    let none : length date.items ≡ 0 = omega (arith, ap length c.date_front-date.ensures.items, c.if-date-ne0.false) in
    c.time_front.ensures.used ∙ first-choice (length date.items == 0) _ _ (eq-eqb (length date.items) 0 none)

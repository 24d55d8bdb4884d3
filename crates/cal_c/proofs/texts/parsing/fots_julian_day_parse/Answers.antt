use Rattle.std.proofs.Common.{◌∙◌}
use Rattle.cal_c.specs.Texts.{parsed_date_error_at}
use Rattle.cal_c.proofs.Unreads.{refused, unreadable}
use Rattle.cal_c.proofs.texts.parsing.fots_julian_day_parse.Goals as goal

pub returns-in-Err-clause-syntax_error : goal.returns-in-Err-clause-syntax_error
returns-in-Err-clause-syntax_error c none =
    let is = c.in-Err.ensures in
    unreadable parsed_date_error_at _ c.args.text.now c.in-Err.error _ (is.syntax_error.1 (λ j has. none (j, has))) is.position c.error.ensures

pub returns-clause-out_of_range : goal.returns-clause-out_of_range
returns-clause-out_of_range c why h = absurd ((c.in-Ok.ensures.out_of_range why).1 h)

pub returns-in-Err-clause-out_of_range : goal.returns-in-Err-clause-out_of_range
returns-in-Err-clause-out_of_range c why h = c.error.ensures ∙ refused parsed_date_error_at _ why ((c.in-Err.ensures.out_of_range why).1 h)

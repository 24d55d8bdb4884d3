use Rattle.std.proofs.Common.{ap, ◌∙◌}
use Rattle.cal_text.proofs.Results.{not_ok, one}
use Rattle.cal_c.specs.FormatParsing.{parsed_pair_ok}
use Rattle.cal_c.specs.Texts.{parsed_moment_error_at, parsed_moment_ok}
use Rattle.cal_c.proofs.Unreads.{refused, unreadable}
use Rattle.cal_c.proofs.texts.iso.fots_pair_parse_iso.Goals as goal

pub returns-clause-value : goal.returns-clause-value
returns-clause-value c = λ v is_text. c.ok.ensures ∙ ap parsed_moment_ok c.assume_utc.ensures.value ∙ ap parsed_pair_ok (one _ _ (c.in-Ok.ensures.every v is_text))

pub returns-in-Err-clause-value : goal.returns-in-Err-clause-value
returns-in-Err-clause-value c = λ v is_text. absurd (not_ok _ _ (c.in-Err.ensures.every v is_text))

pub returns-in-Err-clause-syntax_error : goal.returns-in-Err-clause-syntax_error
returns-in-Err-clause-syntax_error c none =
    let is = c.in-Err.ensures in
    unreadable parsed_moment_error_at _ c.args.text.now c.in-Err.error _ (is.syntax_error.1 (λ v has. none (v, has))) is.position c.error.ensures

pub returns-clause-out_of_range : goal.returns-clause-out_of_range
returns-clause-out_of_range c why h = absurd ((c.in-Ok.ensures.out_of_range why).1 h)

pub returns-in-Err-clause-out_of_range : goal.returns-in-Err-clause-out_of_range
returns-in-Err-clause-out_of_range c why h = c.error.ensures ∙ refused parsed_moment_error_at _ why ((c.in-Err.ensures.out_of_range why).1 h)

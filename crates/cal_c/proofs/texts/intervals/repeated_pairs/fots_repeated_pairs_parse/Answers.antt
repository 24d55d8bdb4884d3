use Rattle.std.proofs.Common.{subst, ◌∙◌}
use Rattle.cal_text.proofs.Results.{not_ok, one}
use Rattle.std.specs.Prelude.{ℕ, Option}
use Rattle.cal_interval.specs.declared.plain.interval.DateTimeInterval.{DateTimeInterval}
use Rattle.cal_c.specs.Intervals.{repeated_pairs_error_at, IsRepeatedPairsResult}
use Rattle.cal_c.proofs.IntervalErrors.{refused, unreadable}
use Rattle.cal_c.proofs.texts.intervals.repeated_pairs.fots_repeated_pairs_parse.Goals as goal

pub returns-clause-value : goal.returns-clause-value
returns-clause-value c = λ v is_text. subst (λ (x : Option ℕ × DateTimeInterval). IsRepeatedPairsResult x c.repeated_result.result) (one _ _ (c.in-Ok.ensures.every v is_text)) c.repeated_result.ensures

pub returns-in-Err-clause-value : goal.returns-in-Err-clause-value
returns-in-Err-clause-value c = λ v is_text. absurd (not_ok _ _ (c.in-Err.ensures.every v is_text))

pub returns-in-Err-clause-syntax_error : goal.returns-in-Err-clause-syntax_error
returns-in-Err-clause-syntax_error c none =
    let is = c.in-Err.ensures in
    unreadable repeated_pairs_error_at _ c.args.text.now c.in-Err.error _ (is.syntax_error.1 (λ v has. none (v, has))) is.position c.error.ensures

pub returns-clause-out_of_range : goal.returns-clause-out_of_range
returns-clause-out_of_range c why h = absurd ((c.in-Ok.ensures.out_of_range why).1 h)

pub returns-in-Err-clause-out_of_range : goal.returns-in-Err-clause-out_of_range
returns-in-Err-clause-out_of_range c why h = c.error.ensures ∙ refused repeated_pairs_error_at _ why ((c.in-Err.ensures.out_of_range why).1 h)

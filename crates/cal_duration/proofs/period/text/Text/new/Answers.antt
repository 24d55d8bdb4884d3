use Rattle.std.proofs.Common.{◌∷◌, [], ◌∙◌, sym, subst, rules}
use Rattle.std.specs.Prelude.{FitsSigned}
use Rattle.std.specs.Int.{w32}
use Rattle.cal_time.specs.SignedDuration.{IsDuration}
use Rattle.cal_duration.proofs.Lengths.{period_appended, passed_text, passed_time}
use Rattle.cal_duration.proofs.Printed.{AreKept, printed_period, zero_kept}
use Rattle.cal_duration.proofs.period.text.Text.new.Goals as goal

pub returns-then-is_zero_period-clause-parses : goal.returns-then-is_zero_period-clause-parses
returns-then-is_zero_period-clause-parses c =
    printed_period c.args.period
    (zero_kept c.args.period (sym c.if-is_zero_period.ensures) (subst IsDuration c.duration.ensures c.whole_nanoseconds.ensures.range) c.whole_months.ensures.one_sign)

pub returns-clause-value : goal.returns-clause-value
returns-clause-value c =
    let years : FitsSigned w32 c.years.result = search rules in
    let months : FitsSigned w32 c.months.result = search rules in
    let weeks : FitsSigned w32 c.weeks.result = search rules in
    let days : FitsSigned w32 c.days.result = search rules in
    period_appended c.args.period _ _ _ _ _ _ _ _ _ _ _ _ _ _ (sym c.if-is_zero_period.ensures) c.is_negative_period.ensures c.empty-text.ensures c.sign.ensures.value
    (c.as_str.ensures.value ∙ c.part.ensures.value ∙ passed_text c.years.result c.args.period.years (89 ∷ []) years c.years.ensures)
    (c.as_str-2.ensures.value ∙ c.part-2.ensures.value ∙ passed_text c.months.result c.args.period.months (77 ∷ []) months c.months.ensures)
    (c.as_str-3.ensures.value ∙ c.part-3.ensures.value ∙ passed_text c.weeks.result c.args.period.weeks (87 ∷ []) weeks c.weeks.ensures)
    (c.as_str-4.ensures.value ∙ c.part-4.ensures.value ∙ passed_text c.days.result c.args.period.days (68 ∷ []) days c.days.ensures)
    c.push-2.ensures.appended c.push-3.ensures.appended c.push-4.ensures.appended c.push-5.ensures.appended c.push-6.ensures.appended c.push-7.ensures.appended
    (passed_time c.duration-2.result c.args.period.exact _ _ c.push_time.ensures.appended c.duration-2.ensures)

pub returns-clause-parses : goal.returns-clause-parses
returns-clause-parses c =
    let years : FitsSigned w32 c.years.result = search rules in
    let months : FitsSigned w32 c.months.result = search rules in
    let weeks : FitsSigned w32 c.weeks.result = search rules in
    let days : FitsSigned w32 c.days.result = search rules in
    let kept : AreKept c.args.period = record {
      years = subst (FitsSigned w32) c.years.ensures years;
      months = subst (FitsSigned w32) c.months.ensures months;
      weeks = subst (FitsSigned w32) c.weeks.ensures weeks;
      days = subst (FitsSigned w32) c.days.ensures days;
      exact = subst IsDuration c.duration.ensures c.whole_nanoseconds.ensures.range;
      one_sign = c.whole_months.ensures.one_sign;
    } in
    printed_period c.args.period kept

-- The text of an error in the text of rules of holidays.
use Rattle.std.specs.Prelude.{ℕ, List, ◌++◌, codes, decimal}
use Rattle.cal_holiday_text.specs.declared.error.ParseHolidayRuleError.{ParseHolidayRuleError}
use Rattle.cal_holiday_text.specs.declared.error.ParseHolidayRuleErrorKind.{ParseHolidayRuleErrorKind}
use Rattle.cal_holiday_text.specs.declared.error.ParseHolidayRuleErrorKind.TheVariants.{Invalid, TooMany}

-- The text of a reason.
abbrev pub rule_reason_text : ParseHolidayRuleErrorKind → List ℕ
rule_reason_text Invalid = codes "invalid rule of a holiday"
rule_reason_text TooMany = codes "too many rules of holidays"

-- The text of an error: its reason, and its position in decimal.
abbrev pub rule_error_text : ParseHolidayRuleError → List ℕ
rule_error_text error = rule_reason_text error.reason ++ codes " at " ++ decimal error.position

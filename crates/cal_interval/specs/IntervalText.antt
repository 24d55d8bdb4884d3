-- The text that an interval prints: its two parts with a solidus between them.
use Rattle.std.specs.Prelude.{ℕ, List, ◌++◌, codes}
use Rattle.cal_time.specs.DateText as date
use Rattle.cal_datetime.specs.DateTime as plain
use Rattle.cal_duration.specs.DurationText.{period_text}
use Rattle.cal_interval.specs.declared.date.interval.DateInterval.{DateInterval}
use Rattle.cal_interval.specs.declared.date.interval.DateInterval.TheVariants as date_interval
use Rattle.cal_interval.specs.declared.plain.interval.DateTimeInterval.{DateTimeInterval}
use Rattle.cal_interval.specs.declared.plain.interval.DateTimeInterval.TheVariants as date_time_interval

abbrev pub date_interval_text : DateInterval → List ℕ
date_interval_text (date_interval.StartAndEnd s e) = date.text s ++ (codes "/" ++ date.text e)
date_interval_text (date_interval.StartAndPeriod s p) = date.text s ++ (codes "/" ++ period_text p)
date_interval_text (date_interval.PeriodAndEnd p e) = period_text p ++ (codes "/" ++ date.text e)

abbrev pub date_time_interval_text : DateTimeInterval → List ℕ
date_time_interval_text (date_time_interval.StartAndEnd s e) = plain.text s ++ (codes "/" ++ plain.text e)
date_time_interval_text (date_time_interval.StartAndPeriod s p) = plain.text s ++ (codes "/" ++ period_text p)
date_time_interval_text (date_time_interval.PeriodAndEnd p e) = period_text p ++ (codes "/" ++ plain.text e)

-- The known calendars.
use Rattle.std.specs.Prelude.{List, map}
use Rattle.cal_holidays.specs.declared.calendars.TheConstants.{CALENDARS}
use Rattle.cal_holidays.specs.declared.holiday_rule.HolidayRule.{HolidayRule}

-- The rules of each calendar.
unfoldable pub calendars : List (List HolidayRule)
calendars = map (λ row. row.1.now) CALENDARS

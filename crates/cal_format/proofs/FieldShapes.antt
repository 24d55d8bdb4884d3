-- What the marks of a date and of a time of day say of each component.
use Rattle.std.proofs.Common.{◌≡◌, List, refl}
use Rattle.std.specs.Prelude.{Bool, true, false, ◌||◌, ◌&&◌, not, IsTrue}
use Rattle.cal_format.specs.declared.item.Component.TheVariants.{Year, Century, YearOfCentury, IsoYear, Month, Day, Ordinal, IsoWeek, Weekday, DaysFromMonday, DaysFromSunday, SundayWeekday, SundayWeek, MondayWeek, Minute, Second, Subsecond1, Subsecond2, Subsecond4, Subsecond5, Subsecond7, Subsecond8}
use Rattle.cal_format.specs.Reading.{mark_of}
use Rattle.cal_format.specs.Shown.{shows_rare, is_calendar, is_ordinal, is_week, shows_hour_once, shows_rare_part, shows_one_part, shows_part, is_clock}
use Rattle.cal_format.proofs.Apart.{both_tests}

neither : (a b : Bool) → IsTrue (not (a || b)) → (a ≡ false) × IsTrue (not b)
neither true b h = cc
neither false b h = (refl, h)

unmarked : (a : Bool) → IsTrue (not a) → a ≡ false
unmarked true h = cc
unmarked false h = refl

pub clash : (b : Bool) → IsTrue b → b ≡ false → ⊥
clash true h e = cc
clash false h e = cc

-- ---- dates
pub record NoRare (m : List Bool) : Type 0 where
  pub century : mark_of Century m ≡ false
  pub year : mark_of YearOfCentury m ≡ false
  pub monday : mark_of DaysFromMonday m ≡ false
  pub sunday : mark_of DaysFromSunday m ≡ false
  pub weekday : mark_of SundayWeekday m ≡ false
  pub sunday_week : mark_of SundayWeek m ≡ false
  pub monday_week : mark_of MondayWeek m ≡ false

no-rare : (m : List Bool) → IsTrue (not (shows_rare m)) → NoRare m
no-rare m h =
    let century = neither (mark_of Century m) _ h in
    let year = neither (mark_of YearOfCentury m) _ century.1 in
    let monday = neither (mark_of DaysFromMonday m) _ year.1 in
    let sunday = neither (mark_of DaysFromSunday m) _ monday.1 in
    let weekday = neither (mark_of SundayWeekday m) _ sunday.1 in
    let week = neither (mark_of SundayWeek m) (mark_of MondayWeek m) weekday.1 in
    record {
      century = century.0;
      year = year.0;
      monday = monday.0;
      sunday = sunday.0;
      weekday = weekday.0;
      sunday_week = week.0;
      monday_week = unmarked (mark_of MondayWeek m) week.1;
    }

pub record CalendarMarks (m : List Bool) : Type 0 where
  pub year : IsTrue (mark_of Year m)
  pub month : IsTrue (mark_of Month m)
  pub day : IsTrue (mark_of Day m)
  pub iso_year : mark_of IsoYear m ≡ false
  pub ordinal : mark_of Ordinal m ≡ false
  pub week : mark_of IsoWeek m ≡ false
  pub rare : NoRare m

pub calendar-marks : (m : List Bool) → IsTrue (is_calendar m) → CalendarMarks m
calendar-marks m h =
    let both = both_tests (mark_of Year m && (mark_of Month m && mark_of Day m)) _ h in
    let year = both_tests (mark_of Year m) _ both.0 in
    let month = both_tests (mark_of Month m) (mark_of Day m) year.1 in
    let iso = neither (mark_of IsoYear m) _ both.1 in
    let ordinal = neither (mark_of Ordinal m) _ iso.1 in
    let week = neither (mark_of IsoWeek m) (shows_rare m) ordinal.1 in
    record { year = year.0; month = month.0; day = month.1; iso_year = iso.0; ordinal = ordinal.0; week = week.0; rare = no-rare m week.1 }

pub record OrdinalMarks (m : List Bool) : Type 0 where
  pub year : IsTrue (mark_of Year m)
  pub ordinal : IsTrue (mark_of Ordinal m)
  pub iso_year : mark_of IsoYear m ≡ false
  pub month : mark_of Month m ≡ false
  pub day : mark_of Day m ≡ false
  pub week : mark_of IsoWeek m ≡ false
  pub weekday : mark_of Weekday m ≡ false
  pub rare : NoRare m

pub ordinal-marks : (m : List Bool) → IsTrue (is_ordinal m) → OrdinalMarks m
ordinal-marks m h =
    let both = both_tests (mark_of Year m && mark_of Ordinal m) _ h in
    let year = both_tests (mark_of Year m) (mark_of Ordinal m) both.0 in
    let iso = neither (mark_of IsoYear m) _ both.1 in
    let month = neither (mark_of Month m) _ iso.1 in
    let day = neither (mark_of Day m) _ month.1 in
    let week = neither (mark_of IsoWeek m) _ day.1 in
    let weekday = neither (mark_of Weekday m) (shows_rare m) week.1 in
    record { year = year.0; ordinal = year.1; iso_year = iso.0; month = month.0; day = day.0; week = week.0; weekday = weekday.0; rare = no-rare m weekday.1 }

pub record WeekMarks (m : List Bool) : Type 0 where
  pub iso_year : IsTrue (mark_of IsoYear m)
  pub week : IsTrue (mark_of IsoWeek m)
  pub weekday : IsTrue (mark_of Weekday m)
  pub year : mark_of Year m ≡ false
  pub month : mark_of Month m ≡ false
  pub day : mark_of Day m ≡ false
  pub ordinal : mark_of Ordinal m ≡ false
  pub rare : NoRare m

pub week-marks : (m : List Bool) → IsTrue (is_week m) → WeekMarks m
week-marks m h =
    let both = both_tests (mark_of IsoYear m && (mark_of IsoWeek m && mark_of Weekday m)) _ h in
    let iso = both_tests (mark_of IsoYear m) _ both.0 in
    let week = both_tests (mark_of IsoWeek m) (mark_of Weekday m) iso.1 in
    let year = neither (mark_of Year m) _ both.1 in
    let month = neither (mark_of Month m) _ year.1 in
    let day = neither (mark_of Day m) _ month.1 in
    let ordinal = neither (mark_of Ordinal m) (shows_rare m) day.1 in
    record { iso_year = iso.0; week = week.0; weekday = week.1; year = year.0; month = month.0; day = day.0; ordinal = ordinal.0; rare = no-rare m ordinal.1 }

pub calendar-ordinal : (m : List Bool) → IsTrue (is_calendar m) → IsTrue (is_ordinal m) → ⊥
calendar-ordinal m h k = clash (mark_of Ordinal m) (ordinal-marks m k).ordinal (calendar-marks m h).ordinal

pub calendar-week : (m : List Bool) → IsTrue (is_calendar m) → IsTrue (is_week m) → ⊥
calendar-week m h k = clash (mark_of IsoYear m) (week-marks m k).iso_year (calendar-marks m h).iso_year

pub ordinal-week : (m : List Bool) → IsTrue (is_ordinal m) → IsTrue (is_week m) → ⊥
ordinal-week m h k = clash (mark_of IsoYear m) (week-marks m k).iso_year (ordinal-marks m h).iso_year

-- ---- times of day
pub record ClockMarks (m : List Bool) : Type 0 where
  pub hour : IsTrue (shows_hour_once m)
  pub minute : IsTrue (mark_of Minute m || not (mark_of Second m))
  pub second : IsTrue (mark_of Second m || not (shows_part m))
  pub part : IsTrue (shows_one_part m)
  pub part_1 : mark_of Subsecond1 m ≡ false
  pub part_2 : mark_of Subsecond2 m ≡ false
  pub part_4 : mark_of Subsecond4 m ≡ false
  pub part_5 : mark_of Subsecond5 m ≡ false
  pub part_7 : mark_of Subsecond7 m ≡ false
  pub part_8 : mark_of Subsecond8 m ≡ false

pub clock-marks : (m : List Bool) → IsTrue (is_clock m) → ClockMarks m
clock-marks m h =
    let hour = both_tests (shows_hour_once m) _ h in
    let minute = both_tests (mark_of Minute m || not (mark_of Second m)) _ hour.1 in
    let second = both_tests (mark_of Second m || not (shows_part m)) _ minute.1 in
    let part = both_tests (shows_one_part m) (not (shows_rare_part m)) second.1 in
    let one = neither (mark_of Subsecond1 m) _ part.1 in
    let two = neither (mark_of Subsecond2 m) _ one.1 in
    let four = neither (mark_of Subsecond4 m) _ two.1 in
    let five = neither (mark_of Subsecond5 m) _ four.1 in
    let seven = neither (mark_of Subsecond7 m) (mark_of Subsecond8 m) five.1 in
    record {
      hour = hour.0;
      minute = minute.0;
      second = second.0;
      part = part.0;
      part_1 = one.0;
      part_2 = two.0;
      part_4 = four.0;
      part_5 = five.0;
      part_7 = seven.0;
      part_8 = unmarked (mark_of Subsecond8 m) seven.1;
    }

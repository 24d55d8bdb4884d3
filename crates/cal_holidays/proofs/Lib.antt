pub mod Epacts
pub mod Sundays
pub mod ClosedForms
pub mod JulianDays
pub mod HolidayDays
pub mod DayLists
pub mod HolidayLists
pub mod HolidayYears

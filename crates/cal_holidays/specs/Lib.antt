pub mod Epacts
pub mod Easter
pub mod ClosedForm
pub mod Holidays
pub mod HolidaySearch
pub mod Calendars

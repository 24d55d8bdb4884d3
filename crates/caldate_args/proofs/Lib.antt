pub mod HolidayLines
pub mod Joins
pub mod ValidEvents

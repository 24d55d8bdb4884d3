pub mod CalendarDay
pub mod ClosedForms
pub mod CountLaws
pub mod Date
pub mod PackedDate
pub mod DateIter
pub mod DateLimits
pub mod DateText
pub mod IsoWeekDate
pub mod Arithmetic
pub mod Occurrences
pub mod Order
pub mod DateErrors
pub mod DateResults
-- The errors, for higher crates.
pub use Rattle.cal_units.specs.ComponentError

pub mod Form
pub mod PartsRead
pub mod DurationShape
pub mod ErrorText
pub mod Parsing
pub mod Values
pub mod DurationText
pub mod PeriodBytes

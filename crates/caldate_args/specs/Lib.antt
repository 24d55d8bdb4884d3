pub mod ClockWords
pub mod Events
pub mod Files
pub mod Holidays
pub mod Lists
pub mod Words
pub mod Zones

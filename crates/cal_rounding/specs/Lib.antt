pub mod Rounding
pub mod InZone

pub mod Time
pub mod UtcOffset

pub mod DateTime
pub mod DateTimeLaws
pub mod OffsetDateTime
pub mod OffsetDateTimeLaws
pub mod Replacement
pub mod UnixTimeLaws

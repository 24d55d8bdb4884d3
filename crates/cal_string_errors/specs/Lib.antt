pub mod Shown
pub mod Formats

pub mod Ended
pub mod Named
pub mod Ambiguities
pub mod Parsed

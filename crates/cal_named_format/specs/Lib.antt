pub mod Named
pub mod Ambiguity
pub mod Rejection
pub mod Values

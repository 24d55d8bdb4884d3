pub mod Multiples
pub mod OneInZone
pub mod OneResult
pub mod Starts

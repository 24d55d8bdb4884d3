pub mod Begins
pub mod Cuts
pub mod Depths
pub mod FoundEvents
pub mod Searches
pub mod SetSteps
pub mod Walks

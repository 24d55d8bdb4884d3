pub mod Sentences
pub mod Components
pub mod Statuses

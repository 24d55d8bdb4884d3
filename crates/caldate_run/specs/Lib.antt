pub mod Events
pub mod Inputs
pub mod Named
pub mod Pieces
pub mod Recurring
pub mod Replies
pub mod Runs
pub mod Steps

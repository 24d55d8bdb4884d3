pub mod Days
pub mod Text

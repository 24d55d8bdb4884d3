pub mod ErrorText
pub mod Days
pub mod Rules

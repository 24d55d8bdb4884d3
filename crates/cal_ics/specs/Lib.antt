pub mod Events
pub mod EventSet
pub mod ErrorText

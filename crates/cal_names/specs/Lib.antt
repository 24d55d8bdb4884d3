pub mod Names
pub mod Apart
pub mod NameShape
pub mod Languages

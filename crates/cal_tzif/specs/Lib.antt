pub mod Bytes
pub mod Posix
pub mod PosixError
pub mod Header
pub mod Types
pub mod File
pub mod ErrorText

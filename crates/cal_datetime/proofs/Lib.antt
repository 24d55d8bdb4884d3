pub mod DateTimes
pub mod Instants
pub mod Texts

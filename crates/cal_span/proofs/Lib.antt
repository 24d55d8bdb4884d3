pub mod Parts
pub mod Order
pub mod Text
pub mod Carry
pub mod Clamp
pub mod Product
pub mod Quotient

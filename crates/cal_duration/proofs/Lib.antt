pub mod Levels
mod DigitReads
mod PartsReads
mod FormReads
mod Parsed
pub mod OneAnswer
pub mod Shapes
pub mod Ranges
mod Lengths
mod Printed

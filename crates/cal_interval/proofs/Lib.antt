pub mod Parsed
pub mod Shapes
pub mod DateShapes
pub mod DateTimeShapes
pub mod WentPast
pub mod RangeSteps
pub mod DateTimeRangeSteps

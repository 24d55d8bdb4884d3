pub mod DateShapes
pub mod DateReads
pub mod ClockShapes
pub mod ClockReads
pub mod MomentShapes
pub mod MomentReads
pub mod LongForms

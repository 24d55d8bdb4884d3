pub mod DateForm
pub mod ClockForm
pub mod TimeForm
pub mod OffsetForm
pub mod MomentForm
pub mod IsoShape

pub mod DigitTexts
pub mod YearTexts
pub mod Ranges
pub mod DayForms
pub mod NumberTexts
pub mod PrintedDecimals
mod PrintedMoments
mod UnixReads
pub mod Results
mod Shapes
pub mod ReadDigits
pub mod YearDigits
pub mod DigitParts
pub mod Decimals
pub mod NumberShapes
pub mod UnixShapes
pub mod OffsetShapes
pub mod MomentShapes
pub mod TimeShapes
pub mod YearParts
pub mod FormReads
pub mod FormShapes
pub mod PlainShapes
pub mod OffsetDateTimeShapes
pub mod Stops
pub mod Positions
pub mod Found
pub mod Parts
pub mod Forms
pub mod DigitForms
pub mod Errors
pub mod Parsed
pub mod PlainReads
pub mod OffsetDateTimeReads
mod AnyForms
mod AnyPositions
mod UnixPrinted
mod Moments

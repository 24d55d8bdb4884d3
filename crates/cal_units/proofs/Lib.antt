pub mod Decimals
pub mod Digits
pub mod Extents
pub mod Pairs
pub mod TextLengths
pub mod Weeks
pub mod YearTexts

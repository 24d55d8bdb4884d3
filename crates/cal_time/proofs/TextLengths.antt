-- The maximum lengths of the texts of numbers, under the names of this crate.
pub use Rattle.cal_units.proofs.Decimals.{decimals-few}
pub use Rattle.cal_units.proofs.TextLengths.{length-signed, length-signed_wide, length-year}

pub ruleset text_lengths = (length-signed, length-signed_wide, length-year, decimals-few)

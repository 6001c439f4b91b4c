pub mod PartValues
pub mod Quantified
pub mod Totals

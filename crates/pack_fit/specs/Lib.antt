pub mod Packing
pub mod Looks
pub mod Survey

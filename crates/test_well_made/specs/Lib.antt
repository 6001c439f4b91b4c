pub mod Defined
pub mod Numbered

pub mod Spelling
pub mod Parts
pub mod Words
pub mod Rounds

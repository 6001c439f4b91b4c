pub mod Separated
pub mod Digits
pub mod Spellings
pub mod PieceReading
pub mod LineReading

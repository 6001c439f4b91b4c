pub mod Kinds
pub mod Meaning
pub mod Bounds
pub mod WellMade
pub mod Solutions
pub mod StandsFor

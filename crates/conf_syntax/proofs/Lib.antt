pub mod Tied
pub mod Declared
pub mod Fitting
pub mod Located
pub mod LocatedItems
pub mod WholeTrees
pub mod WholeItems
pub mod SpelledWords

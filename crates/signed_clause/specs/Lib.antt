pub mod Ranges
pub mod Stored
pub mod SetAlgebra
pub mod Union
pub mod Merging
pub mod Clauses

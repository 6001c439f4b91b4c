pub mod Searched
pub mod SoFar

pub mod Handled
pub mod Within
pub mod Equalities
pub mod Conditionals
pub mod Elements
pub mod Near
pub mod Walks

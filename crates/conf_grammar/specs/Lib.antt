pub mod Machine
pub mod Operators
pub mod Fronts
pub mod Leads

pub mod WithinDomains
pub mod WalkBack
pub mod WiderBoxes
pub mod Fitted

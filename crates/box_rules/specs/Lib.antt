pub mod Refuted
pub mod Justified
pub mod Quiet
pub mod Points
pub mod Named
pub mod Crowding
pub mod FixedItems
pub mod Gaps

pub mod Replay
pub mod Decisions
pub mod Lines
pub mod Conflicts
pub mod Ordered
pub mod Fixpoints

pub mod Modes
pub mod Boards
pub mod Standing
pub mod Engines
pub mod BoundLists
pub mod Awaited
pub mod Ends

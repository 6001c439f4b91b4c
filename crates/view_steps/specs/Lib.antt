pub mod Answer
pub mod Moves
pub mod Rooms
pub mod Runs
pub mod Steps
pub mod Text
pub mod Views

pub mod Handled
pub mod Sources
pub mod Tight
pub mod Collected
pub mod RoomRows
pub mod TotalSteps
pub mod LoadSteps
pub mod Spans

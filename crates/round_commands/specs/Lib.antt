pub mod CoreLines
pub mod Ending
pub mod Events
pub mod Holding
pub mod Statuses
pub mod Told
pub mod Unreadable

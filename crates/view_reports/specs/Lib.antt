pub mod Delivered
pub mod Ending
pub mod Made
pub mod Status
pub mod Words

pub mod Answers
pub mod Ending
pub mod Options
pub mod Pictured
pub mod Status
pub mod Stepped
pub mod Words

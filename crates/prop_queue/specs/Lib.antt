pub mod Work
pub mod Urgencies
pub mod Lists

pub mod Changes
pub mod Merging
pub mod Plan
pub mod Text
pub mod Views
pub mod Words

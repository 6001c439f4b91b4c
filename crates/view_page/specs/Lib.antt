pub mod Adding
pub mod Entries
pub mod EntryViews
pub mod Page
pub mod PageViews
pub mod Turns

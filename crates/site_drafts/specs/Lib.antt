pub mod Answers
pub mod Drafts
pub mod Paired
pub mod Tables

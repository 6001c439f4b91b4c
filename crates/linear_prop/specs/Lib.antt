pub mod Rows
pub mod Surveys
pub mod Falls
pub mod Explaining
pub mod Turns
pub mod Flags
pub mod RowAnswers
pub mod Handled

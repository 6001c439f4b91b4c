pub mod Findings
pub mod Handled

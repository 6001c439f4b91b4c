pub mod Stages
pub mod Status

pub mod Choices
pub mod Classes
pub mod Facts
pub mod Goals
pub mod Lines
pub mod Model
pub mod Pairs

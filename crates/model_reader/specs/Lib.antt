pub mod Building
pub mod Meaning
pub mod ModelRefusal
pub mod Models
pub mod Ready
pub mod Refusing
pub mod TextErrors
pub mod TextModel

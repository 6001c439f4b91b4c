pub mod Operating
pub mod Products

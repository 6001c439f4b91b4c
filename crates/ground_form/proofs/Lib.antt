pub mod VarLists
pub mod SingleValues
pub mod Weights
pub mod Products
pub mod Ends
pub mod VarsAt
pub mod Equal

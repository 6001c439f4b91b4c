pub mod Ascending
pub mod Listing
pub mod PathOrder
pub mod ValuesRead

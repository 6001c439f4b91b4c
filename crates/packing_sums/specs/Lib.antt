pub mod Loads
pub mod Packings
pub mod Hosts

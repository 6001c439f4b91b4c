pub mod Checking
pub mod Requests
pub mod Told
pub mod Verifying

pub mod Picks
pub mod Walks

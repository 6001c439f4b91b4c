pub mod Backwards
pub mod WatchFitting
pub mod QueueFitting

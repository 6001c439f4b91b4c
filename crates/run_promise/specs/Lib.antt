pub mod Answer
pub mod Asking
pub mod Blaming
pub mod CoreTexts
pub mod Delivery
pub mod Recorded
pub mod Refusal
pub mod Sessions

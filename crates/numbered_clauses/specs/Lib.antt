pub mod Numbered
pub mod Numbers
pub mod Coded
pub mod Packed

pub mod EndLaws
pub mod SetLaws
pub mod Halving
pub mod Leaps
pub mod CutLaws
pub mod Leaving

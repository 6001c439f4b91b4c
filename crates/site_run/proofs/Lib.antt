pub mod EndingLaws

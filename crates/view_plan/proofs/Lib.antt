pub mod MergeLaws
pub mod SetLaws

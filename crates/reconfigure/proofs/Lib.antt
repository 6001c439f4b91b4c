pub mod InsideLaws
pub mod MarkLaws
pub mod NamedLaws
pub mod NamingLaws
pub mod SumLaws
pub mod LeafLaws
pub mod Repaired
pub mod HintCounts

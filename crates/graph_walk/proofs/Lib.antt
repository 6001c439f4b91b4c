pub mod WalkLaws
pub mod CycleLaws
pub mod AncestorLaws
pub mod ChildLaws

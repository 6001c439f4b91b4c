pub mod CoverLaws
pub mod PartLaws
pub mod QuotientLaws

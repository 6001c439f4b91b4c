mod CapLaws
mod BodyLaws
mod TotalLaws
mod TypedLaws
pub mod PartLaws

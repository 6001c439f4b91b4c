pub mod HeldLaws
pub mod MentionLaws
pub mod PartLaws
pub mod PartOrder

pub mod ModelParts
pub mod OneModel
pub mod OneStatus
pub mod TextLaws
pub mod TextRefusals

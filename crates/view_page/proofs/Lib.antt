pub mod LineLaws
pub mod ShownLaws
pub mod TextLaws

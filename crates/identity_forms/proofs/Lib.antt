pub mod SetLaws
pub mod GroupLaws
pub mod ChoiceLaws
pub mod PairLaws
pub mod SlotLaws
pub mod MemberLaws
pub mod SameLaws
pub mod ListingLaws

pub mod PartLists
pub mod Rounds
pub mod SuspectLaws
pub mod Narrowings
pub mod CoreLaws

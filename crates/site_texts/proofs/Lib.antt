pub mod EntryLaws
pub mod PairLaws
pub mod WordTexts

pub mod FalseLaws
pub mod EntryLaws
pub mod WithinLaws
pub mod BackLaws
pub mod Walking
pub mod WalkByIndex

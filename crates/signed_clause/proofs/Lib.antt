pub mod RangeLaws
pub mod RangeSteps
pub mod SetFacts
pub mod UnionLaws
pub mod CountLaws
pub mod ClauseLaws
pub mod ClauseForm
pub mod ResolventLaws

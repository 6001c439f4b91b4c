pub mod AnswerLaws
pub mod BreakLaws
pub mod FirstLaws

pub mod AnswerLaws
pub mod DraftLaws
pub mod MeasureLaws
pub mod PairedLaws
pub mod RowLaws

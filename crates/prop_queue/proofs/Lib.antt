pub mod OrderLaws
pub mod MarkLaws
pub mod RowLaws
pub mod FitLaws
pub mod ClauseLaws

pub mod KeptLaws
pub mod CaseLaws
pub mod ShareLaws
pub mod SumLaws
pub mod Narrowness
pub mod PartsKept
pub mod TruthForms
pub mod QuantifierTrees

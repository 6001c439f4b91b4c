pub mod ValueLaws
pub mod SumLaws

pub mod PackedLaws
pub mod Packings
pub mod PlanLaws
pub mod SmallRowLaws

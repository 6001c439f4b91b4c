pub mod HalfLaws
pub mod HostLaws
pub mod LoadLaws
pub mod PackingLaws
pub mod RowLaws

pub mod MemberLaws
pub mod ConjunctionQuiet
pub mod ConjunctionReasons
pub mod Asked

pub mod Growing
pub mod NewDomains
pub mod Defining

pub mod FixedForms
pub mod FormValues
pub mod FormBounds
pub mod Standing

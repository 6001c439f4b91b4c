pub mod FileFronts
pub mod WholeFile

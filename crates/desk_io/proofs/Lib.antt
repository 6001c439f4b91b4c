pub mod FileListLemmas
pub mod Names
pub mod Pieces
pub mod SteadyFiles
pub mod StoredPieces

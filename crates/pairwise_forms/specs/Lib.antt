pub mod KeyValues
pub mod AlikeParts
pub mod Clashing
pub mod Packing
pub mod Rows
pub mod Blocks
pub mod Wholes

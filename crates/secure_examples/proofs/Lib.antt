pub mod Blocks
pub mod Seals
pub mod Rows
pub mod Clear
pub mod Switched
pub mod ComputedBuilds

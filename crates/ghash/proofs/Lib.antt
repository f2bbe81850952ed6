pub mod Blocks
pub mod Computed
pub mod Entries
pub mod Linear
pub mod Words

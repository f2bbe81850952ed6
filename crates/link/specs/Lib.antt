pub mod Lines
pub mod File
pub mod Worked
pub mod Walks
pub mod Reads
pub mod Links

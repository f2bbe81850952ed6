pub mod Parts
pub mod Examples
pub mod Builds
pub mod Worked

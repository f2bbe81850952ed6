pub mod LoopInvariant
pub mod Builds
pub mod Checksums
pub mod Kinds

pub mod Bits
pub mod Banner

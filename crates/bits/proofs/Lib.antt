pub mod Every
pub mod Xor

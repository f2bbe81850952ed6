pub mod Aes
pub mod Counter
pub mod Packed

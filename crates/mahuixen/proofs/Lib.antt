pub mod Chain
pub mod Crc
pub mod Demands
pub mod Released
pub mod Switches
pub mod Nonces
pub mod Sealed

pub mod Calls
pub mod Demands
pub mod Releases
pub mod Switches
pub mod Nonces
pub mod Sealed

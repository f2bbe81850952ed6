pub mod Build
pub mod Nonces
pub mod States
pub mod Trip

pub mod Calls
pub mod Gcm
pub mod Trip

pub mod Secure
pub mod Words

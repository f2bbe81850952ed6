pub mod Ghash
pub mod Tables

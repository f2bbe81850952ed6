pub mod Behind
pub mod Accepted

pub mod Sums
pub mod Events
pub mod Laws

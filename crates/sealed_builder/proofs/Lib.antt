pub mod Texts
pub mod Accepted
pub mod NoncesDiffer
pub mod NoNonceTwice
pub mod Refusals18And26
pub mod Trip

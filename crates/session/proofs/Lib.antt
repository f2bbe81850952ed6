-- What the proofs of several functions cite.
mod Histories
mod Single
pub mod Table
pub mod Releases

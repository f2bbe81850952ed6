mod Ends
mod Counts
mod Moves
mod Chains
pub mod Outcomes
mod Widths
mod Whole

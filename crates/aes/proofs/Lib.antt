pub mod Computed
pub mod Counters
pub mod Keys
pub mod Packing

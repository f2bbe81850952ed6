pub mod Faults
pub mod Laws
pub mod Allowed
pub mod Headers
pub mod Back
pub mod Spelling
pub mod Fine

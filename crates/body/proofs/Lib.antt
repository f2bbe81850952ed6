pub mod Allowed
pub mod Checksums
pub mod Ends
pub mod Laws
pub mod Spelling
pub mod Fields

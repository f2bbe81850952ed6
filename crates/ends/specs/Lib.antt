pub mod Handed
pub mod Trip
pub mod Ends
pub mod Spelling

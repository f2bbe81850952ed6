pub mod Rows
pub mod Bodies
pub mod Tags
pub mod Judged
pub mod Drafted
pub mod Trips
pub mod ByTags
pub mod Limits

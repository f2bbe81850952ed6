pub mod Events
pub mod Stream
pub mod Rows
pub mod Worked
pub mod Adds

pub mod Table
pub mod Read
pub mod Rows
pub mod Write
pub mod ByTag
pub mod Claims
pub mod Worked

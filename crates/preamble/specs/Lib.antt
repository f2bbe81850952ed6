pub mod Layout
pub mod Judge
pub mod Checked
pub mod Reading

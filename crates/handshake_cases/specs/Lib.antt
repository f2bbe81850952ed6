pub mod Modes
pub mod Steps

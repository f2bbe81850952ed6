pub mod Switched
pub mod Step
pub mod Calls
pub mod Every
pub mod Worked

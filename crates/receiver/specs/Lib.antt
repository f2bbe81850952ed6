pub mod Report
pub mod State
pub mod Step
pub mod Calls
pub mod Every
pub mod Worked

pub mod Table
pub mod Steps
pub mod Runs
pub mod Pick
pub mod Worked

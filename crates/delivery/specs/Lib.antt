pub mod Requests
pub mod Calls
pub mod Every
pub mod Worked

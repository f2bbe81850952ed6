pub mod Calls
pub mod Laws
pub mod History
pub mod Worked

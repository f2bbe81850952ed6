pub mod Back
pub mod Answers
pub mod Calls
pub mod Agreeing

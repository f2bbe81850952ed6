pub mod Answers
pub mod Comparison
pub mod InPlace
pub mod Placing
pub mod RoundTrip
pub mod Opened

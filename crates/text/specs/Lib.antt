pub mod Law
pub mod Line
pub mod Page

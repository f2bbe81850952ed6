pub mod Walks
pub mod Choice

pub mod Allowed
pub mod Booleans
pub mod Judgements

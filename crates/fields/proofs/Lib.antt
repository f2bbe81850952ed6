pub mod Skips
pub mod ReadBack
pub mod Puts
pub mod Drafts

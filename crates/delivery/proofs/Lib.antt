pub mod Reasons
pub mod Leaves
pub mod Every
pub mod Claim
pub mod NoRequests
pub mod NoReason
pub mod OneRequest
pub mod Acks

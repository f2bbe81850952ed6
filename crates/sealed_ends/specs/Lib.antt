pub mod Fronts
pub mod Handed
pub mod Trip
pub mod Ends
pub mod Openings
pub mod Directions
pub mod Adds

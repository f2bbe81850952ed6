pub mod Layout
pub mod Field
pub mod Reading
pub mod Writing

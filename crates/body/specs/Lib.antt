pub mod Body
pub mod End

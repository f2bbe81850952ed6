pub mod Square
pub mod Table

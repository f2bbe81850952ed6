pub mod Nibbles
pub mod Rules
pub mod Squares

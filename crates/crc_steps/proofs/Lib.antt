pub mod Linear
pub mod Rules
pub mod Tests

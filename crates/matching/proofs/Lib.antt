pub mod Tests
pub mod Selectors

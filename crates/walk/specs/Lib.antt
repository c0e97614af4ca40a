pub mod Rows
pub mod Run
pub mod Selectors
pub mod Walking
pub mod Maps

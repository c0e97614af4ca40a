pub mod Sheets
pub mod Loads
pub mod Maps
pub mod Styles
pub mod Draws
pub mod Isolation
pub mod Numbers

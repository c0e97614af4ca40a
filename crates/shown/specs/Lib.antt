pub mod Style
pub mod Styles
pub mod Draws

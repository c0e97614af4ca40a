pub mod Elim
pub mod Layout

pub mod Elim
pub mod Utf8

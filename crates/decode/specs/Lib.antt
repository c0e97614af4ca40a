pub mod Decode
pub mod Spells

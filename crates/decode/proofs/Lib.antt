pub mod Places
pub mod Entries
pub mod Begun
pub mod Spelling
pub mod Spells

pub mod Below
pub mod Judged
pub mod Entries
pub mod Room

pub mod Lies
pub mod Handed

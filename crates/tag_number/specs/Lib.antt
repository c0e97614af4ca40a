pub mod Told
pub mod Grown

pub mod Number
pub mod Pair

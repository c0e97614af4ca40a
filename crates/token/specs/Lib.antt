pub mod Elim
pub mod Read
pub mod Step

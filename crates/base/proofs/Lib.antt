pub mod Loops
pub mod Compare
pub mod Tables
pub mod Options
pub mod Spelled

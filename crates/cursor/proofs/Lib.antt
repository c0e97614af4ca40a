pub mod Onward
pub mod Reaching
pub mod Positions

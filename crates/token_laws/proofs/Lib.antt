pub mod Colors
pub mod Consuming
pub mod Shades
pub mod Enough
pub mod Works

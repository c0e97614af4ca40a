pub mod Keys
pub mod Nth
pub mod Inverse
pub mod Streams

pub mod Choice
pub mod Option
pub mod Bytes
pub mod Map
pub mod Entity
pub mod Table
pub mod Turns
pub mod Refusal

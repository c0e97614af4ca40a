pub mod Book
pub mod Encode
pub mod Meaning
pub mod Held

pub mod Lent
pub mod Encode
pub mod Source
pub mod Answers

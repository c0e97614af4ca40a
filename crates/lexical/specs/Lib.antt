pub mod Lexical
pub mod Lexed

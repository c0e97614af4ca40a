pub mod Get
pub mod Style

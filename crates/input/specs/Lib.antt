pub mod Text
pub mod Source

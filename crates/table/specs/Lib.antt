pub mod Value
pub mod Kind

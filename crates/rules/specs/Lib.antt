pub mod Kind
pub mod Rules

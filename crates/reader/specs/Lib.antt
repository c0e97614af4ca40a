pub mod Tags
pub mod Examples

pub mod Keys
pub mod Chain

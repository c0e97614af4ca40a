pub mod GetLaws
pub mod WordNames

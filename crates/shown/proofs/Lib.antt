pub mod StyleIs
pub mod Rows
pub mod StylesAre
pub mod DrawKeys
pub mod DrawStream
pub mod DrawsAre

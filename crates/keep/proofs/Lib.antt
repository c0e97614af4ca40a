pub mod KeepLaws
pub mod Rows
pub mod Tints
pub mod Standing
pub mod Lending
pub mod Loaded
pub mod Laws

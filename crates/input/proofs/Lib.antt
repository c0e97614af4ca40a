pub mod TokenLaws
pub mod Placing
pub mod Fuel
pub mod Genuine
pub mod Readers

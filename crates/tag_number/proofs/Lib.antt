pub mod Texts
pub mod Scaled
pub mod Saturate
pub mod Layers
pub mod Decimals
pub mod Back

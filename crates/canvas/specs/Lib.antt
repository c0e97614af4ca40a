pub mod Canvas
pub mod Shown

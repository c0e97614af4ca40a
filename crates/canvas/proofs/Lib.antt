pub mod CanvasLaws
pub mod Shown

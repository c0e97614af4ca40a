pub mod Zoom

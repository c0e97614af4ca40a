pub mod Frame
pub mod Plate

pub mod Checked
pub mod Sound
pub mod Drawn
pub mod Passing

pub mod Cases
pub mod Productions
pub mod Meetings
pub mod Marked
pub mod Reach

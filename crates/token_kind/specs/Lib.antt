pub mod Reason
pub mod Signs

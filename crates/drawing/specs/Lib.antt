pub mod Gather
pub mod Lists

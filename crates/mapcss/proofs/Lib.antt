pub mod Sheets
pub mod Loading
pub mod Maps
pub mod Isolation
pub mod Draws
pub mod Ordered
pub mod Numbers
pub mod LoadNumbers

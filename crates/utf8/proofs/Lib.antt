pub mod Rows
pub mod Going
pub mod Inverse
pub mod Texts
pub mod Bytes

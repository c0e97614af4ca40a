pub mod Elim
pub mod Cursor
pub mod Class
pub mod Blank
pub mod Number
pub mod Reach
pub mod Position

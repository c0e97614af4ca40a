pub mod RowLaws
pub mod Widths

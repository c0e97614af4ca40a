pub mod RowLaws
pub mod LayerLaws
pub mod WalkLaws

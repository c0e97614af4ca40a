pub mod ListLaws
pub mod KeyLaws
pub mod GatherLaws
pub mod DrawLaws
pub mod StreamLaws

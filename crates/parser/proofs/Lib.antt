pub mod LoadLaws

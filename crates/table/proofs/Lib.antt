pub mod Values
pub mod Back
pub mod KindLaws

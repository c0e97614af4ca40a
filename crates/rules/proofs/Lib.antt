pub mod KindLaws
pub mod RuleLaws
pub mod TypeNames

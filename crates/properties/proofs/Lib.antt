pub mod Turns
pub mod FormLaws
pub mod ValueLaws

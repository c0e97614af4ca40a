pub mod StylesLaws

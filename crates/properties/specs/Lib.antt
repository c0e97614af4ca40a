pub mod Answers
pub mod Eval

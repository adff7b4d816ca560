pub mod Answers
pub mod Sequences

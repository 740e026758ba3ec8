mod Pairs
pub mod Answers

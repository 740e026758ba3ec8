mod Making
mod Combining
mod Halving
mod Summing
mod FixingOutcomes
pub mod Answers

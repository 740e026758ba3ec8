pub mod Sizes
pub mod Outcomes
mod Room

pub mod Weights
mod Filling
mod Accumulating

pub mod Work
pub mod Inner

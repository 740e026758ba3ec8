pub mod Split
pub mod Inner

pub mod Elements
pub mod Inner

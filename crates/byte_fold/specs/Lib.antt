pub mod Takes
pub mod Inner

pub mod Ward
pub mod Inner

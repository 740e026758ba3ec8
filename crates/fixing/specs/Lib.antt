pub mod Fixing
pub mod Inner

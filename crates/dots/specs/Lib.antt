pub mod Dots
pub mod Spans
pub mod Inner

pub mod Point
pub mod Coordinates
pub mod Inner
pub mod Points

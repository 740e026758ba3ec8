pub mod Poly
pub mod Values
pub mod Inner

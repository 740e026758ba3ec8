pub mod Octets
pub mod Inner

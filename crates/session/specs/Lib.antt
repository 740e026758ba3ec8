pub mod Settled
pub mod Inner

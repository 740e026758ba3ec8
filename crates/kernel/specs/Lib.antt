pub mod Kernel
pub mod Inner

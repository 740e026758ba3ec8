mod Mapping
pub mod Weighing
mod Placing

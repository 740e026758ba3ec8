pub mod Inner
pub mod Against

pub mod Hex
pub mod Frame
pub mod Written
pub mod Words
pub mod Inner

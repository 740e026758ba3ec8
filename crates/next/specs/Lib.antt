pub mod Whole
pub mod Next
pub mod Inner

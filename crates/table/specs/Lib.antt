pub mod Table
pub mod Refusals
pub mod Gained
pub mod Inner

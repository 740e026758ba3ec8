pub mod Padding
pub mod ByNumber
pub mod Last
pub mod Inner

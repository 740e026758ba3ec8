pub mod After
pub mod Shown
pub mod Inside
pub mod Inner

pub mod Printed
pub mod Blocks
pub mod Shown
pub mod Inside
pub mod Printing
pub mod Padded
pub mod Inner

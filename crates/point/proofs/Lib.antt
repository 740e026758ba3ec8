pub mod Rest
pub mod Coordinates
mod Halving
mod Spanning
mod InBlocks
mod Bits
mod Climbing
mod Doubling
mod Filling
mod Selecting

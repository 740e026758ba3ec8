pub mod Weigh
pub mod Entries
pub mod Blocks

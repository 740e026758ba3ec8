mod Arrays
mod Wrapping
pub mod Summing
mod FewWords
mod Settling
mod Columns
mod Spreading
mod Spanning
mod Pairing

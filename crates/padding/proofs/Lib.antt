pub mod Lasting
pub mod Padded
pub mod ByNumber
mod Keeping
mod Spreading
mod Missing
mod Repeating
mod Weights

mod Reaching
pub mod Owning

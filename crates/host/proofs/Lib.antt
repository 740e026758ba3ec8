pub mod Applying
pub mod Chaining

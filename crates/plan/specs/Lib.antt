pub mod Plan
pub mod Sound
pub mod Columns
pub mod Section

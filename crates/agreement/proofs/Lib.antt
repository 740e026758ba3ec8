mod Sizes
mod Accepting
mod WeightTables
pub mod Agreement
pub mod OneColumn

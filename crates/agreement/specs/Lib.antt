pub mod Agreement
pub mod OneColumn

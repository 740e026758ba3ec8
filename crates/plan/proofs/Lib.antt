pub mod Columns
pub mod OneColumn
pub mod Padding
pub mod Joining
pub mod Sections

pub mod Words
pub mod Reading
pub mod Gathering
pub mod Blocks
pub mod Adding
pub mod Sections
pub mod Putting

mod Texts
mod Joining
mod Ending
mod Telling
pub mod Printing
mod Following
pub mod Alike
mod Cutting
mod Starting
mod OneLine

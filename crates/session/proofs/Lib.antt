pub mod Joining
pub mod Scanning

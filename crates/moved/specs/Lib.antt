pub mod Fits
pub mod Moved
pub mod Weighed
pub mod Blocked
pub mod Inner

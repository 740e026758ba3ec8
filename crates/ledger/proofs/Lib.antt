pub mod Left
pub mod Accepted
pub mod Runs
pub mod SameAnswer
pub mod Ledgers
pub mod Unopened
pub mod Demand3

pub mod Session
pub mod Ledger
pub mod Demand3

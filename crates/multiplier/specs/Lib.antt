pub mod Ready
pub mod Tables

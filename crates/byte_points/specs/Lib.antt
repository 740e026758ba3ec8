pub mod BytePoints
pub mod Few

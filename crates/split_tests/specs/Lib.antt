pub mod SplitTests
pub mod Inner

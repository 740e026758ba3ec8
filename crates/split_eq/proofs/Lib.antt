pub mod Tested
pub mod Scaled
pub mod WorkWeights
pub mod FoldOutcomes

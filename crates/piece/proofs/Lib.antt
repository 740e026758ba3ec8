mod Adding
pub mod Fronts
mod BySection
pub mod FewRows

mod Testing
mod Halves
mod FoldOutcomes
mod Folding

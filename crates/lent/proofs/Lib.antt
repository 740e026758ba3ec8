-- Lemmas of the lent calls.
pub mod Fields

-- The laws of a whole set.
pub mod Leaf

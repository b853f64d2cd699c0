-- The laws of a read input.
pub mod Inputs

-- The text in the order of the code.
pub mod Parts

-- The laws of what the desk program prints.
pub mod Inputs
pub mod Worth

-- The laws of the passes.
pub mod Passes

-- What the passes over the wires rest on.
pub mod Passes

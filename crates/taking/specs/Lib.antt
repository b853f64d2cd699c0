-- What the functions of this crate ask of each other.
pub mod Operands

-- The laws of the bits of a word.
pub mod Bits

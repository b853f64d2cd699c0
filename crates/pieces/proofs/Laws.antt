-- The laws of the lines: their numbers, their lengths, and that they are the specification's.
pub mod Numbers
pub mod Lengths
pub mod Spelling

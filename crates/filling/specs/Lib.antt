-- What is stored of a read.
pub mod Stored

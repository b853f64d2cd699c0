-- How many records a read has, and what is stored of them.
pub mod Stored

-- What the functions of this crate say of each other: a line of its word and its numbers.
pub mod Fields

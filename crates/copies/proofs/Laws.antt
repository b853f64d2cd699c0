-- What is proved of the first records of a list.
pub mod Blanks

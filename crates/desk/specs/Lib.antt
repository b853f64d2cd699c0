-- What the desk program prints of its input.
pub mod Answers

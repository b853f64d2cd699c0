-- What the example answers.
pub mod Passing

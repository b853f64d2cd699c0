-- The parts of the test, what callers may take from a passed test, and that it has one answer.
pub mod Parts
pub mod Fitting
pub mod Once

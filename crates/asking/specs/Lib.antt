-- The tests before a call on one set.
pub mod Checks

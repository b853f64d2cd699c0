-- The laws of the tests before a call on one set.
pub mod Checks

-- The laws of running: the values, the answer to each test, and that the promise determines it.
pub mod Values
pub mod Runs
pub mod Once

-- What the run of the rule to its end follows, and the two calls on one set.
pub mod Run
pub mod Calls

-- The counts of consumers.
pub mod Consumers

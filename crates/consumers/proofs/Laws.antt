-- The laws of the counts of consumers.
pub mod Consumers

-- The record of a wire, and the counts over the first records.
pub mod Counting

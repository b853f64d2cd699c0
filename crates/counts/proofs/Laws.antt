-- The counts record by record, and those of a routine.
pub mod Counts

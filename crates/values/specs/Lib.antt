-- The lent words against the counts.
pub mod Words

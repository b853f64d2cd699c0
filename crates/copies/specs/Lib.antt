-- The first records of a lent list.
pub mod First

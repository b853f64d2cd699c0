-- The laws of the first records of a lent list.
pub mod Laws

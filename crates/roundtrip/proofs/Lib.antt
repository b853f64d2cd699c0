-- The laws behind the theorems, and the theorems.
pub mod Laws
pub mod TextTheorems

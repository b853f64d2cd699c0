-- The lines of the orders in the order of the code.
pub mod Orders

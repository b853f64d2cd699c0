-- The laws of the lines of the orders, and how long they can be.
pub mod Orders
pub mod Rooms

-- The laws of the lines of a read, how long they can be, what a report determines, and what a pass in it is worth.
pub mod Lines
pub mod Rooms
pub mod Reports
pub mod Once
pub mod Worth

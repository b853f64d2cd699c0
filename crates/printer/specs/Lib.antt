-- The printed lines field by field, and how long they can be.
pub mod Fields
pub mod Rooms

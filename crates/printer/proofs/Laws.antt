-- The laws of printed numbers and lines.
pub mod Lines
pub mod Rooms

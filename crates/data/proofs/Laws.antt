-- The laws of these definitions; each file says of what.
pub mod Tests
pub mod Placing
pub mod Numbers
pub mod Once

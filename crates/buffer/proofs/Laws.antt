-- The laws of bytes put into a buffer.
pub mod Puts
pub mod Sinks
pub mod Digits
pub mod Beginning

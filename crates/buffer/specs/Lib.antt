-- Bytes put into a lent buffer, or counted.
pub mod Put
pub mod Begins
pub mod Sinks
pub mod Laws

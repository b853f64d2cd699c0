-- The tables of the cones, how they are made, and what is seen of a set by them.
pub mod Bits
pub mod Tables
pub mod Seen
pub mod Making

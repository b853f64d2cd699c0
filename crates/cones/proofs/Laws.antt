-- Cones of wires and own randoms, and what they spare a judgement.
pub mod Cone
pub mod Own
pub mod Bits
pub mod Tables
pub mod Seen
pub mod Spared
pub mod Making
pub mod Inverted
pub mod Listed

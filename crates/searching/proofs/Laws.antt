-- The laws of the search: of sets in order, of a turn, of wires passed over, of the sizes.
pub mod Search
pub mod Turns
pub mod Skipping
pub mod Sizes

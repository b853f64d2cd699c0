-- The laws of sets as they lie in their places, and of wires passed over.
pub mod Growing

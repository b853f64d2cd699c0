-- What the text of a routine has of one wire.
pub mod Pieces
